use Rattle.std.proofs.Common.{◌≡◌, drop, length}
use Rattle.html_dom_tree.specs.Views.{nodes_view}
use Rattle.html_dom_tree.proofs.node.+same.Given as goal

abbrev pub invariant-same_nodes-loop-i : goal.invariant-same_nodes-loop-i
invariant-same_nodes-loop-i l = record {
  long : length l.a ≡ length l.b;
  only : nodes_view (drop l.i l.a) ≡ nodes_view (drop l.i l.b) → nodes_view l.a ≡ nodes_view l.b;
  so : nodes_view l.a ≡ nodes_view l.b → nodes_view (drop l.i l.a) ≡ nodes_view (drop l.i l.b);
}
