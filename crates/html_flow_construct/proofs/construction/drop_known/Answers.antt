use Rattle.std.proofs.{Common.{rules}, lemmas.Fn.{filter_same}}
use Rattle.html_flow_construct.{proofs.Others.{is_other, others_kept}, specs.Construct.{entries_view}}
use Rattle.html_flow_construct.proofs.construction.drop_known.Goals as goal

pub returns : goal.returns
returns c =
    let entries = entries_view c.args.entries.now in
    let kept = filter_same _ (is_other entries) _ (λ arg keep after call. search rules) _ _
    c.retain.ensures.filtered in
    others_kept entries _ _ kept
