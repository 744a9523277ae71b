use Rattle.std.proofs.Common.{◌≡◌, drop, length}
use Rattle.html_dom_tree.specs.FrameViews.{frame_items_view}
use Rattle.html_dom_tree.proofs.frame.+same.Given as goal

abbrev pub invariant-same_items-loop-i : goal.invariant-same_items-loop-i
invariant-same_items-loop-i l = record {
  long : length l.a ≡ length l.b;
  only : frame_items_view (drop l.i l.a) ≡ frame_items_view (drop l.i l.b) →
      frame_items_view l.a ≡ frame_items_view l.b;
  so : frame_items_view l.a ≡ frame_items_view l.b →
      frame_items_view (drop l.i l.a) ≡ frame_items_view (drop l.i l.b);
}
