use Rattle.std.proofs.Common.{◌≡◌, ◌++◌, map, vec_len}
use Rattle.html_dom_tree.specs.Views.{node_view}
use Rattle.html_dom_flat.specs.Stacks.{indexed_node, stack_view}
use Rattle.html_dom_flat.proofs.spelling.spelled_nodes.Given as goal

abbrev pub invariant-loop-node : goal.invariant-loop-node
invariant-loop-node l =
    map node_view l.made.items ++ map indexed_node (stack_view l.stack.items)
    ≡ map indexed_node (stack_view l.initial.stack.items)

abbrev pub decreases-loop-node : goal.decreases-loop-node
decreases-loop-node l = vec_len l.stack
