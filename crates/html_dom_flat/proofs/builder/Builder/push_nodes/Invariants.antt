use Rattle.std.proofs.Common.{◌≡◌, ◌+◌, ◌++◌, drop, vec_len}
use Rattle.html_dom_tree.specs.Views.{nodes_view}
use Rattle.html_dom_flat.specs.{Builders.{builder_view}, Flat.{nodes_count, nodes_flat}}
use Rattle.html_dom_flat.proofs.builder.Builder.push_nodes.Given as goal

abbrev pub invariant-loop-node : goal.invariant-loop-node
invariant-loop-node l =
    let left = nodes_view (drop l.node-index l.nodes) in
    let all = nodes_view l.nodes in
    record {
      list : builder_view l.self ++ nodes_flat (vec_len l.self.nodes) left
          ≡ builder_view l.initial.self ++ nodes_flat (vec_len l.initial.self.nodes) all;
      count : vec_len l.self.nodes + nodes_count left
          ≡ vec_len l.initial.self.nodes + nodes_count all;
    }
