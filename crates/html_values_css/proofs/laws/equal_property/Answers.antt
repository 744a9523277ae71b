use Rattle.std.proofs.Common.{sym, ◌∙◌}
use Rattle.html_values_css.proofs.Equals.{one_decides}
use Rattle.html_values_css.proofs.laws.equal_property.Goals as goal

pub returns : goal.returns
returns c =
    let both = one_decides c.args.a.now c.args.b.now in
    (λ h. both.0 (sym c.eq.ensures ∙ h), λ e. c.eq.ensures ∙ both.1 e)
