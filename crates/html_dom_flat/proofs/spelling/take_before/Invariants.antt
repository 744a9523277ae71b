use Rattle.std.proofs.Common.{◌≡◌, ◌++◌, map, length}
use Rattle.html_dom_tree.specs.Views.{node_view}
use Rattle.html_dom_flat.specs.Stacks.{stack_view, stacked_before, rest_after}
use Rattle.html_dom_flat.proofs.spelling.take_before.Given as goal

abbrev pub invariant-loop-node : goal.invariant-loop-node
invariant-loop-node l =
    let left = stack_view l.stack.items in
    let all = stack_view l.fn.stack.items in
    record {
      taken : map node_view l.nodes.items ++ stacked_before l.past left ≡ stacked_before l.past all;
      rest : rest_after l.past left ≡ rest_after l.past all;
    }

abbrev pub decreases-loop-node : goal.decreases-loop-node
decreases-loop-node l = length (stack_view l.stack.items)
