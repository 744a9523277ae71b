use Rattle.std.proofs.Common.{sym, ◌∙◌}
use Rattle.html_page_encoding.proofs.Words.{first_here, first_later, first_none}
use Rattle.html_page_encoding.proofs.word.behind_first.Goals as goal

pub returns-in-Some-behind_bytes : goal.returns-in-Some-behind_bytes
returns-in-Some-behind_bytes c =
    sym (first_here _ _ _ _ c.in-Some.ensures _ (sym c.in-Some-behind_bytes.ensures))
    ∙ c.loop-later.invariant

pub loop-later-preserved : goal.loop-later-preserved
loop-later-preserved c = sym (first_later _ _ _ _ c.in-Some.ensures
    (sym c.in_default-behind_bytes.ensures)) ∙ c.loop-later.invariant

pub returns : goal.returns
returns c = sym (first_none _ _ c.in_default.ensures) ∙ c.loop-later.invariant
