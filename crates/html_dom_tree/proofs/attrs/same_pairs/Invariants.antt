use Rattle.std.proofs.Common.{◌≡◌, drop, length, map}
use Rattle.html_dom_tree.specs.Views.{pair_view}
use Rattle.html_dom_tree.proofs.attrs.same_pairs.Given as goal

abbrev pub invariant-loop-i : goal.invariant-loop-i
invariant-loop-i l = record {
  long : length l.a ≡ length l.b;
  only : map pair_view (drop l.i l.a) ≡ map pair_view (drop l.i l.b) →
      map pair_view l.a ≡ map pair_view l.b;
  so : map pair_view l.a ≡ map pair_view l.b →
      map pair_view (drop l.i l.a) ≡ map pair_view (drop l.i l.b);
}
