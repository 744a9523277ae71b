use Rattle.std.proofs.Common.{sym, ◌∙◌}
use Rattle.html_values.proofs.Equals.{candidate_decides}
use Rattle.html_values.proofs.laws.equal_image_candidates.Goals as goal

pub returns : goal.returns
returns c =
    let candidates = candidate_decides c.args.a.now c.args.b.now in
    (λ h. candidates.0 (sym c.eq.ensures ∙ h), λ e. c.eq.ensures ∙ candidates.1 e)
