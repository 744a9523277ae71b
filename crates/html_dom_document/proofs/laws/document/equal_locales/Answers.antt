use Rattle.std.proofs.Common.{sym, ◌∙◌}
use Rattle.html_dom_document.proofs.Equals.{locale_decides}
use Rattle.html_dom_document.proofs.laws.document.equal_locales.Goals as goal

pub returns : goal.returns
returns c =
    let test = locale_decides c.args.a.now c.args.b.now in
    (λ h. test.0 (sym c.eq.ensures ∙ h), λ e. c.eq.ensures ∙ test.1 e)
