use Rattle.std.proofs.Common.{◌≡◌, drop}
use Rattle.html_dom_tree.specs.Views.{nodes_view}
use Rattle.html_flow_convert.specs.{BareSpaces.{nodes_things}, Walks.{walk_on, walk_view}}
use Rattle.html_flow_convert.proofs.answers.SpaceWalk.+walk.Given as goal

abbrev pub invariant-see_nodes-loop-node : goal.invariant-see_nodes-loop-node
invariant-see_nodes-loop-node l =
    walk_on (walk_view l.self) (nodes_things (nodes_view (drop l.node-index l.nodes)))
    ≡ walk_on (walk_view l.fn.self) (nodes_things (nodes_view l.nodes))
