use Rattle.std.proofs.Common.{◌≡◌, ◌≤◌, length, drop}
use Rattle.html_dom_flat.specs.{FlatViews.{flat_nodes_view}, Stacks.{stack_view, list_stack}}
use Rattle.html_dom_flat.proofs.spelling.stacked.Given as goal

abbrev pub invariant-loop-index : goal.invariant-loop-index
invariant-loop-index l = record {
  within : l.index ≤ length l.nodes;
  stack : stack_view l.stack.items
      ≡ list_stack l.index (drop l.index (flat_nodes_view l.names l.nodes));
}

abbrev pub decreases-loop-index : goal.decreases-loop-index
decreases-loop-index l = l.index
