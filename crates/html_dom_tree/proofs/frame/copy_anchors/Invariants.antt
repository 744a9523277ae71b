use Rattle.std.proofs.Common.{◌≡◌, take}
use Rattle.html_dom_tree.specs.FrameViews.{anchors_view}
use Rattle.html_dom_tree.proofs.frame.copy_anchors.Given as goal

abbrev pub invariant-loop-point : goal.invariant-loop-point
invariant-loop-point l =
    anchors_view l.copies.items ≡ anchors_view (take l.point-index l.anchors.items)
