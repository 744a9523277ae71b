use Rattle.std.proofs.Common.{◌≡◌, ◌+◌, [], ◌∷◌, ◌++◌, refl, sym, ap, ◌∙◌, arith, append_assoc, reverse, vec_len}
use Rattle.std.proofs.lemmas.{Grind.{common_steps}, List.{length-map, reverse-reverse}}
use denote.Param.Weighed.{most, most-append}
use Rattle.html_dom_tree.proofs.{Reversed.{most_reversed, next_reversed}, node.HtmlNode.TheLaws.{the_size}}
use Rattle.html_dom_tree.specs.Views.{element_view}
use Rattle.html_dom_flat.proofs.Closings.{closed_element}
use Rattle.html_dom_flat.specs.{Builders.{builder_view}, ClosedElements.{closed_at}, Flat.{nodes_count, nodes_flat}}
use Rattle.html_dom_flat.specs.FlatViews.{flat_node_view}
use Rattle.html_dom_flat.proofs.builder.Builder.+flatten.Goals as goal

pub move_element-returns-clause-list : goal.move_element-returns-clause-list
move_element-returns-clause-list t c =
    let old = c.args.self.now in
    let opened = c.open_element.new.self in
    let filled = c.move_nodes.new.self in
    let e = element_view c.args.element in
    let children = c.in_ok-children.ensures.children in
    let fills : builder_view filled
    ≡ builder_view opened ++ nodes_flat (vec_len old.nodes + 1) e.1
    = grind (arith, common_steps) in
    let ends : vec_len filled.nodes ≡ vec_len old.nodes + 1 + nodes_count e.1
    = grind (arith, common_steps) in
    let closes : builder_view c.close_element.new.self
    ≡ closed_at (vec_len old.nodes) (vec_len filled.nodes) (builder_view filled)
    = grind (arith, common_steps) in
    closed_element (builder_view old) (builder_view opened) (builder_view filled)
    (builder_view c.close_element.new.self) e.0 e.1 (vec_len old.nodes) (vec_len filled.nodes)
    (old.nodes.ok.0 ∙ sym (length-map old.nodes.items (flat_node_view old.names)))
    c.in_ok-children.ensures.list fills ends closes

pub move_many-loop-node-init : goal.move_many-loop-node-init
move_many-loop-node-init t c =
    let all = c.args.nodes.items in
    let again = ap reverse c.reverse_nodes.ensures ∙ reverse-reverse all in
    let same = ap (most the_size) c.reverse_nodes.ensures ∙ most_reversed the_size all in
    record { list = rw again refl; count = rw again refl; deep = omega (arith, same) }

pub move_many-loop-node-preserved : goal.move_many-loop-node-preserved
unfolding nodes_flat nodes_count
move_many-loop-node-preserved t c =
    let held = c.loop-node.invariant in
    let added = c.in_ok-move_node.ensures in
    let left = c.give_back.new.nodes.items in
    let next = next_reversed c.loop-node.nodes.items left c.in-Some.node
    (rw c.give_back.ensures c.in-Some.ensures.items) in
    let parts = ap (most the_size) c.in-Some.ensures.items
    ∙ most-append the_size c.pop.new.self.items (c.in-Some.node ∷ []) in
    record {
      list = rw (added.list, added.count, append_assoc) (rw next at held.list);
      count = omega (arith, added.count, rw next at held.count);
      deep = omega (arith, held.deep, parts, ap (most the_size) c.give_back.ensures);
    }
