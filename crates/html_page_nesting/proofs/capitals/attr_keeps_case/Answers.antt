use Rattle.std.proofs.Common.{chars, ap, sym, ◌∙◌}
use Rattle.html_page_names.specs.ForeignNames.{keeps_case}
use Rattle.html_page_nesting.specs.WrittenTags.{capital_attrs}
use Rattle.html_page_nesting.proofs.capitals.attr_keeps_case.Goals as goal

pub returns-in-Svg : goal.returns-in-Svg
returns-in-Svg c = c.svg_attr_keeps_case.ensures
    ∙ ap (λ s. keeps_case (capital_attrs s) (chars c.args.name.now)) (sym c.in-Svg.is)

pub returns-in-MathMl : goal.returns-in-MathMl
returns-in-MathMl c = c.math_attr_keeps_case.ensures
    ∙ ap (λ s. keeps_case (capital_attrs s) (chars c.args.name.now)) (sym c.in-MathMl.is)
