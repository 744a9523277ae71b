use Rattle.std.proofs.Common.{◌≡◌, map, take}
use Rattle.html_dom_tree.specs.FrameViews.{positioned_view}
use Rattle.html_dom_tree.proofs.frame.+copy_frame.Given as goal

abbrev pub invariant-Frame::try_clone-loop-item : goal.invariant-Frame::try_clone-loop-item
invariant-Frame::try_clone-loop-item l =
    map positioned_view l.items.items ≡ map positioned_view (take l.item-index l.item-items)
