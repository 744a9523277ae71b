use Rattle.std.proofs.Common.{ap, ◌∙◌, refl}
use Rattle.html_dom_tree.specs.FrameViews.{optional_text_view, anchors_view, html_frame_view}
use Rattle.html_anchors.{proofs.Steps.{own_is, frame_served}, specs.WalkViews.{state_view, targets_view}}
use Rattle.html_anchors.proofs.nodes.anchor_frame.Goals as goal

pub returns : goal.returns
returns c =
    let frame = c.args.frame.now in
    frame_served (targets_view c.args.sought) (html_frame_view frame) _
    (optional_text_view c.name_frame_id.new.id) (anchors_view c.name_frame.new.anchors.items)
    (state_view c.args.state.now) _ _ _ (optional_text_view c.in_ok-name.name) c.in_ok-name.ensures
    (own_is c.as_ref.result ∙ ap optional_text_view c.as_ref.ensures.value)
    c.name_frame_id.ensures c.in_ok-name_frame.ensures refl
