use Rattle.std.{proofs.Common.{◌≡◌, ◌+◌, ◌≤◌, ◌++◌, reverse, vec_len}, specs.Vec.Iter.{into_iter_items}}
use denote.Param.Weighed.{most}
use Rattle.html_dom_tree.{proofs.node.HtmlNode.TheLaws.{the_size}, specs.Views.{nodes_view}}
use Rattle.html_dom_flat.specs.{Builders.{builder_view}, Flat.{nodes_count, nodes_flat}}
use Rattle.html_dom_flat.proofs.builder.Builder.+flatten.Given as goal

abbrev pub invariant-move_few-loop-node : goal.invariant-move_few-loop-node
invariant-move_few-loop-node l =
    let left = nodes_view (into_iter_items l.node-iterator) in
    let all = nodes_view l.fn.nodes.items in
    record {
      list : builder_view l.self ++ nodes_flat (vec_len l.self.nodes) left
          ≡ builder_view l.initial.self ++ nodes_flat (vec_len l.initial.self.nodes) all;
      count : vec_len l.self.nodes + nodes_count left
          ≡ vec_len l.initial.self.nodes + nodes_count all;
    }

-- those that are left stand in reverse, none deeper than those that were there
abbrev pub invariant-move_many-loop-node : goal.invariant-move_many-loop-node
invariant-move_many-loop-node l =
    let left = nodes_view (reverse l.nodes.items) in
    let all = nodes_view l.fn.nodes.items in
    record {
      list : builder_view l.self ++ nodes_flat (vec_len l.self.nodes) left
          ≡ builder_view l.initial.self ++ nodes_flat (vec_len l.initial.self.nodes) all;
      count : vec_len l.self.nodes + nodes_count left
          ≡ vec_len l.initial.self.nodes + nodes_count all;
      deep : most the_size l.nodes.items ≤ most the_size l.fn.nodes.items;
    }

abbrev pub decreases-move_many-loop-node : goal.decreases-move_many-loop-node
decreases-move_many-loop-node l = vec_len l.nodes
