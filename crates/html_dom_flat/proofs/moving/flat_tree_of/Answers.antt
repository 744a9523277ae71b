use Rattle.std.proofs.Common.{◌≡◌, ◌∙◌, sym}
use Rattle.html_dom_tree.specs.{Tree.{element_node, none, node}, Views.{element_view}}
use Rattle.html_dom_flat.{proofs.Flats.{element_list, list_spells, list_spelled}, specs.Builders.{builder_view}, specs.Flat.{nodes_flat}}
use Rattle.html_dom_flat.proofs.moving.flat_tree_of.Goals as goal

pub into_tree-requires : goal.into_tree-requires
into_tree-requires c =
    let e = element_view c.args.element in
    let ns = node (element_node e.0 e.1) none in
    let list : builder_view c.move_element.new.self ≡ nodes_flat 0 ns
    = c.in_ok-move_element.ensures.list
    ∙ rw (c.in_ok-builder.ensures.list, c.in_ok-builder.ensures.count) (sym (element_list 0 e)) in
    list_spells _ ns list

pub returns : goal.returns
returns c =
    let e = element_view c.args.element in
    let ns = node (element_node e.0 e.1) none in
    let list : builder_view c.move_element.new.self ≡ nodes_flat 0 ns
    = c.in_ok-move_element.ensures.list
    ∙ rw (c.in_ok-builder.ensures.list, c.in_ok-builder.ensures.count) (sym (element_list 0 e)) in
    c.into_tree.ensures ∙ list_spelled _ ns list
