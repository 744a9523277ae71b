use Rattle.std.proofs.Common.{◌≡◌, drop}
use Rattle.html_dom_tree.specs.Views.{nodes_view}
use Rattle.html_flow_convert.specs.LoneNode.{lone_node}
use Rattle.html_flow_convert.proofs.lone.lone_node.Given as goal

abbrev pub invariant-loop-place : goal.invariant-loop-place
invariant-loop-place l =
    lone_node (nodes_view (drop l.place l.nodes)) ≡ lone_node (nodes_view l.nodes)
