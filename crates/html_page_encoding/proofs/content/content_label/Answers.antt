use Rattle.std.proofs.Common.{sym, ◌∙◌}
use Rattle.html_page_encoding.proofs.ContentSteps.{content_here, content_later, content_none}
use Rattle.html_page_encoding.proofs.content.content_label.Goals as goal

pub returns-in-Some-behind_charset : goal.returns-in-Some-behind_charset
returns-in-Some-behind_charset c =
    c.label_read.ensures ∙ (sym (content_here _ _ _ c.in-Some.ensures _
    (sym c.in-Some-behind_charset.ensures)) ∙ c.loop-later.invariant)

pub loop-later-preserved : goal.loop-later-preserved
loop-later-preserved c = sym (content_later _ _ _ c.in-Some.ensures
    (sym c.in_default-behind_charset.ensures)) ∙ c.loop-later.invariant

pub returns : goal.returns
returns c = sym (content_none _ c.in_default.ensures) ∙ c.loop-later.invariant
