use Rattle.std.proofs.{Common.{◌∙◌, ◌==◌, sym}, lemmas.Bool.Decides.{Decides-eqb}}
use Rattle.html_values_css.proofs.Equals.{lists_decide}
use Rattle.typst_html_encode.proofs.fault.same_spans.Goals as goal

pub returns : goal.returns
returns c =
    let lists = lists_decide (λ a b. a.0 == b.0) (λ a. a.0) (λ a b. Decides-eqb a.0 b.0)
    c.args.a.now c.args.b.now in
    (λ h. lists.0 (sym c.eq.ensures ∙ h), λ e. c.eq.ensures ∙ lists.1 e)
