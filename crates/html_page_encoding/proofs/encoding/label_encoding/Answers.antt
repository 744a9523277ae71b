use Rattle.std.proofs.Common.{sym, ◌∙◌}
use Rattle.html_page_encoding.proofs.Labels.{no_label, windows_label}
use Rattle.html_page_encoding.proofs.encoding.label_encoding.Goals as goal

pub returns-then-is_one_of-2 : goal.returns-then-is_one_of-2
returns-then-is_one_of-2 c =
    sym (windows_label c.args.label.now (sym c.is_one_of.ensures ∙ c.if-is_one_of.false)
    (sym c.is_one_of-else-is_one_of.ensures ∙ c.if-is_one_of-2.true))

pub returns-else-is_one_of-2 : goal.returns-else-is_one_of-2
returns-else-is_one_of-2 c =
    sym (no_label c.args.label.now (sym c.is_one_of.ensures ∙ c.if-is_one_of.false)
    (sym c.is_one_of-else-is_one_of.ensures ∙ c.if-is_one_of-2.false))
