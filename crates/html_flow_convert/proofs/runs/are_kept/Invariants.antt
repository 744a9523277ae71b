use Rattle.std.{proofs.Common.{◌≡◌, map, drop}, specs.List.{filter}}
use Rattle.html_dom_tree.specs.Views.{node_view}
use Rattle.html_flow_convert.{proofs.Blanks.{kept_after}, specs.Runs.{is_blank_node, are_kept}}
use Rattle.html_flow_convert.proofs.runs.are_kept.Given as goal

abbrev pub invariant-loop-node : goal.invariant-loop-node
invariant-loop-node l =
    kept_after l.has_space (filter is_blank_node (map node_view (drop l.node-index l.run)))
    ≡ are_kept (filter is_blank_node (map node_view l.run))
