use Rattle.std.proofs.Common.{◌≡◌, false, map, drop}
use Rattle.html_dom_tree.specs.Views.{node_view}
use Rattle.html_flow_convert.specs.OpenRuns.{has_kept_run}
use Rattle.html_flow_convert.proofs.runs.has_kept_run.Given as goal

abbrev pub invariant-loop-node : goal.invariant-loop-node
invariant-loop-node l =
    has_kept_run l.has_space (map node_view (drop l.node-index l.nodes))
    ≡ has_kept_run false (map node_view l.nodes)
