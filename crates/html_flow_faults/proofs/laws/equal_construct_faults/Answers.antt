use Rattle.std.proofs.Common.{sym, ◌∙◌}
use Rattle.html_flow_faults.proofs.ConstructFaults.{refusal_decides}
use Rattle.html_flow_faults.proofs.laws.equal_construct_faults.Goals as goal

pub returns : goal.returns
returns c =
    let refusals = refusal_decides c.args.a.now c.args.b.now in
    (λ h. refusals.0 (sym c.eq.ensures ∙ h), λ e. c.eq.ensures ∙ refusals.1 e)
