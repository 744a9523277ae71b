use Rattle.std.proofs.Common.{sym, ◌∙◌}
use Rattle.html_values_css.proofs.Equals.{text_decides}
use Rattle.html_values.proofs.laws.equal_strs.Goals as goal

pub returns : goal.returns
returns c =
    let texts = text_decides c.args.a.now.0 c.args.b.now.0 in
    (λ h. texts.0 (sym c.eq.ensures ∙ h), λ e. c.eq.ensures ∙ texts.1 e)
