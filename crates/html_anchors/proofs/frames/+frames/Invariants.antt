use Rattle.std.proofs.Common.{◌≡◌, drop}
use Rattle.html_dom_tree.specs.FrameViews.{anchors_view}
use Rattle.html_anchors.{proofs.InFrames.{starts_from}, specs.Joined.{with_starts}, specs.WalkViews.{state_view, targets_view}}
use Rattle.html_anchors.proofs.frames.+frames.Given as goal

abbrev pub invariant-name_frame-loop-content : goal.invariant-name_frame-loop-content
invariant-name_frame-loop-content l =
    let x = targets_view l.sought in
    with_starts (starts_from x (drop l.content-index l.content-items))
    (state_view l.state, anchors_view l.anchors.items)
    ≡ with_starts (starts_from x l.content-items)
    (state_view l.initial.state, anchors_view l.initial.anchors.items)
