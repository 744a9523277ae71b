use Rattle.std.proofs.Common.{◌≡◌, refl, ◌∙◌}
use Rattle.html_dom_tree.specs.Views.{nodes_view}
use Rattle.html_dom_flat.{proofs.Flats.{list_spells, list_spelled}, specs.Builders.{builder_view}, specs.Flat.{nodes_flat}}
use Rattle.html_dom_flat.proofs.flat_tree.FlatTree.from_nodes.Goals as goal

pub into_tree-requires : goal.into_tree-requires
into_tree-requires c =
    let ns = nodes_view c.args.nodes.now in
    let list : builder_view c.push_nodes.new.self ≡ nodes_flat 0 ns
    = c.in_ok-push_nodes.ensures.list
    ∙ rw (c.in_ok-builder.ensures.list, c.in_ok-builder.ensures.count) refl in
    list_spells _ ns list

pub returns : goal.returns
returns c =
    let ns = nodes_view c.args.nodes.now in
    let list : builder_view c.push_nodes.new.self ≡ nodes_flat 0 ns
    = c.in_ok-push_nodes.ensures.list
    ∙ rw (c.in_ok-builder.ensures.list, c.in_ok-builder.ensures.count) refl in
    c.into_tree.ensures ∙ list_spelled _ ns list
