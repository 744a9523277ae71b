use Rattle.std.{proofs.lemmas.Result.{IfOk-weaker}, specs.Prelude.{option_map}}
use Rattle.html_dom_tree.specs.Views.{optional_text_view}
use Rattle.html_anchors.{proofs.Steps.{tag_started, tag_ended}, specs.WalkViews.{state_view, targets_view}}
use Rattle.html_anchors.proofs.nodes.anchor_tag.Goals as goal

pub returns-in_ok-start-in-Start : goal.returns-in_ok-start-in-Start
returns-in_ok-start-in-Start c =
    rw c.in-Start.is (tag_started (targets_view c.args.sought) c.in-Start.location.0
    (optional_text_view c.in-Start.label) (option_map (λ d. d.0) c.in-Start.dest)
    (state_view c.args.state.now) _ c.in_ok-start-in-Start.ensures)

pub returns-in-End : goal.returns-in-End
returns-in-End c =
    rw c.in-End.is (IfOk-weaker c.end.result _ _ (λ name serves.
    tag_ended (targets_view c.args.sought) c.in-End.location.0 (state_view c.args.state.now) _
    (optional_text_view name) serves) c.end.ensures)
