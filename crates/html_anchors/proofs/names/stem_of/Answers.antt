use Rattle.std.proofs.Common.{sym, ◌∙◌}
use Rattle.html_names_core.specs.Texts.{text_view}
use Rattle.html_anchors.proofs.NumberedNames.{stem_of_nothing}
use Rattle.html_anchors.proofs.names.stem_of.Goals as goal

pub returns-then-is_nothing : goal.returns-then-is_nothing
returns-then-is_nothing c =
    stem_of_nothing (text_view c.args.label.now) (sym c.is_nothing.ensures ∙ c.if-is_nothing.true)
