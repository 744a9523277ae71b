use Rattle.std.proofs.Common.{sym, ◌∙◌}
use Rattle.html_values_css.proofs.Equals.{list_decides}
use Rattle.html_values_css.proofs.properties.same_list.Goals as goal

pub returns : goal.returns
returns c =
    let both = list_decides c.args.a.now c.args.b.now in
    (λ h. both.0 (sym c.eq.ensures ∙ h), λ e. c.eq.ensures ∙ both.1 e)
