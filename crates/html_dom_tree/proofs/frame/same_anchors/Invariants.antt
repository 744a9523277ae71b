use Rattle.std.proofs.Common.{◌≡◌, drop, length, map}
use Rattle.html_dom_tree.specs.FrameViews.{anchor_view}
use Rattle.html_dom_tree.proofs.frame.same_anchors.Given as goal

abbrev pub invariant-loop-i : goal.invariant-loop-i
invariant-loop-i l = record {
  long : length l.a ≡ length l.b;
  only : map anchor_view (drop l.i l.a) ≡ map anchor_view (drop l.i l.b) →
      map anchor_view l.a ≡ map anchor_view l.b;
  so : map anchor_view l.a ≡ map anchor_view l.b →
      map anchor_view (drop l.i l.a) ≡ map anchor_view (drop l.i l.b);
}
