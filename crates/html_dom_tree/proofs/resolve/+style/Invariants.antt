use Rattle.std.proofs.Common.{◌≡◌, map, take}
use Rattle.html_dom_tree.specs.{Styled.{styled_node}, Views.{node_view}}
use Rattle.html_dom_tree.proofs.resolve.+style.Given as goal

abbrev pub invariant-style_nodes-loop-node : goal.invariant-style_nodes-loop-node
invariant-style_nodes-loop-node l =
    record {
      unvisited : goal.unvisited-style_nodes-loop-node l;
      agrees : map node_view (take l.node-index l.nodes)
          ≡ map styled_node (map node_view (take l.node-index l.initial.nodes));
    }
