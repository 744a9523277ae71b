use Rattle.std.proofs.Common.{ap, ◌∙◌}
use Rattle.html_dom_tree.specs.{FrameViews.{point_view, anchors_view, frame_item_view}, Frames.{no_frame_items, placed_item}}
use Rattle.html_anchors.proofs.InFrames.{starts_from, item_named, items_named}
use Rattle.html_anchors.specs.{Events.{items_starts}, Joined.{InFrame, with_starts}, WalkViews.{state_view, targets_view}}
use Rattle.html_anchors.proofs.frames.+frames.Goals as goal

pub name_frame-loop-content-preserved : goal.name_frame-loop-content-preserved
name_frame-loop-content-preserved t c =
    let x = targets_view c.args.sought in
    let old : InFrame
    = (state_view c.loop-content.state, anchors_view c.loop-content.anchors.items) in
    let found = c.loop-content-item.result in
    item_named x c.deref-content-items.result.now c.loop-content.content-index found old _ _
    c.loop-content-test.true c.loop-content.invariant
    (c.in_ok-name_item.ensures (point_view found.0)
    ∙ ap (λ it. with_starts
    (items_starts x (placed_item (point_view it.0) (frame_item_view it.1) no_frame_items)) old)
    c.loop-content-item.is)

pub name_frame-returns : goal.name_frame-returns
name_frame-returns t c =
    let x = targets_view c.args.sought in
    let start : InFrame = (state_view c.args.state.now, anchors_view c.args.anchors.now.items) in
    items_named x c.deref-content-items.result.now c.loop-content.content-index _ _
    c.loop-content-test.false c.loop-content.invariant
    ∙ ap (λ items. with_starts (starts_from x items) start) c.deref-content-items.ensures.value
