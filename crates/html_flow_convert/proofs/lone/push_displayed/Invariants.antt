use Rattle.std.proofs.Common.{◌≡◌, ◌++◌, map}
use Rattle.html_dom_tree.specs.Views.{node_view}
use Rattle.html_flow_convert.specs.LoneNode.{change_view, node_with_display}
use Rattle.html_flow_convert.proofs.lone.push_displayed.Given as goal

abbrev pub invariant-loop-node : goal.invariant-loop-node
invariant-loop-node l =
    map node_view l.nodes.items ≡ map node_view l.fn.nodes.items
    ++ map (node_with_display (change_view l.change)) (map node_view l.yielded)
