use Rattle.std.proofs.Common.{◌≡◌, map, take}
use Rattle.html_dom_tree.specs.Views.{node_view}
use Rattle.html_dom_tree.proofs.node.+copy.Given as goal

abbrev pub invariant-copy_nodes-loop-node : goal.invariant-copy_nodes-loop-node
invariant-copy_nodes-loop-node l =
    map node_view l.copies.items ≡ map node_view (take l.node-index l.nodes)
