use Rattle.std.proofs.Common.{sym, ◌∙◌}
use Rattle.html_page_encoding.proofs.Stripped.{stripped_none, stripped_some}
use Rattle.html_page_encoding.specs.Views.{part_view}
use Rattle.html_page_encoding.proofs.label.stripped.Goals as goal

pub returns-then-is_empty : goal.returns-then-is_empty
returns-then-is_empty c =
    stripped_none (part_view c.args.label) _ _ _ c.split.ensures.front c.split.ensures.behind
    c.trim_ascii_end-text.ensures.value (sym c.is_empty.ensures ∙ c.if-is_empty.true)

pub returns : goal.returns
returns c =
    stripped_some (part_view c.args.label) _ _ _ c.split.ensures.front c.split.ensures.behind
    c.trim_ascii_end-text.ensures.value _ (sym c.is_empty.ensures ∙ c.if-is_empty.false)
    c.saturating_sub-left.ensures
