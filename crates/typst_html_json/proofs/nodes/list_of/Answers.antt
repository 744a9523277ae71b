use Rattle.std.proofs.Common.{◌≡◌, refl, ◌∙◌}
use Rattle.html_dom_tree.specs.Views.{nodes_view}
use Rattle.html_dom_flat.{proofs.Flats.{list_spelled, list_spells}, specs.Builders.{builder_view}, specs.Flat.{nodes_flat}}
use Rattle.typst_html_json.proofs.nodes.list_of.Goals as goal

pub into_tree-requires : goal.into_tree-requires
into_tree-requires c =
    let read = c.in_ok-push_nodes.ensures in
    let list : builder_view c.push_nodes.new.builder ≡ nodes_flat 0 read.made
    = read.list ∙ rw (c.new-builder.ensures.list, c.new-builder.ensures.count) refl in
    list_spells _ read.made list

pub returns : goal.returns
returns c =
    let read = c.in_ok-push_nodes.ensures in
    let list : builder_view c.push_nodes.new.builder ≡ nodes_flat 0 read.made
    = read.list ∙ rw (c.new-builder.ensures.list, c.new-builder.ensures.count) refl in
    let made : nodes_view c.in_ok-to_nodes.field-0.items ≡ read.made
    = c.in_ok-to_nodes.ensures ∙ (c.into_tree.ensures ∙ list_spelled _ read.made list) in
    rw made read.read
