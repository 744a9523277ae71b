use Rattle.std.proofs.Common.{◌≡◌, map, drop}
use Rattle.html_dom_tree.specs.Views.{node_view}
use Rattle.html_flow_convert.specs.Runs.{first_node_span}
use Rattle.html_flow_convert.proofs.runs.first_node_span.Given as goal

abbrev pub invariant-loop-node : goal.invariant-loop-node
invariant-loop-node l =
    first_node_span (map node_view (drop l.node-index l.nodes)) ≡ first_node_span (map node_view l.nodes)
