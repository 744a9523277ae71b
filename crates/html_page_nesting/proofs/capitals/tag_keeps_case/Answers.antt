use Rattle.std.proofs.Common.{chars, ap, sym, ◌∙◌}
use Rattle.html_page_names.specs.ForeignNames.{keeps_case}
use Rattle.html_page_nesting.specs.WrittenTags.{capital_tags}
use Rattle.html_page_nesting.proofs.capitals.tag_keeps_case.Goals as goal

pub returns-in-Svg : goal.returns-in-Svg
returns-in-Svg c = c.svg_tag_keeps_case.ensures
    ∙ ap (λ s. keeps_case (capital_tags s) (chars c.args.name.now)) (sym c.in-Svg.is)
