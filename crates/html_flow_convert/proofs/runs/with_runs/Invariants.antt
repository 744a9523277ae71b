use Rattle.std.proofs.Common.{◌≡◌, map, reverse, false, vec_len}
use Rattle.html_dom_tree.specs.Views.{node_view}
use Rattle.html_flow_convert.{proofs.Blanks.{begins_with_tag, runs_of}, specs.Runs.{nodes_with_runs}}
use Rattle.html_flow_convert.proofs.runs.with_runs.Given as goal

-- those that are left stand in reverse
abbrev pub invariant-loop-node : goal.invariant-loop-node
invariant-loop-node l =
    let left = map node_view (reverse l.nodes.items) in
    let run = map node_view l.run.items in
    record {
      made : runs_of (map node_view l.made.items) run left
          ≡ nodes_with_runs (map node_view l.fn.nodes.items);
      begins : begins_with_tag run ≡ false;
    }

abbrev pub decreases-loop-node : goal.decreases-loop-node
decreases-loop-node l = vec_len l.nodes
