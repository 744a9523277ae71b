use Rattle.std.proofs.Common.{◌≡◌, sym, ◌∙◌, rules}
use Rattle.serde_json.specs.View.{view}
use Rattle.html_dom_flat.{proofs.Flats.{list_spelled, list_spells}, specs.FlatTrees.{tree_nodes}}
use Rattle.html_dom_tree.specs.Tree.{none, node}
use Rattle.typst_html_json.proofs.NodeRows.{one_list, refused_element, tree_read, tree_left}
use Rattle.typst_html_json.proofs.nodes.tree_in.Goals as goal

pub returns-in-Some : goal.returns-in-Some
returns-in-Some c =
    refused_element (view c.args.value) c.in_ok-push_node.ensures.made c.new-reader.result
    c.push_node.new.reader c.in-Some.number c.in-Some.span c.new-reader.ensures.mark
    c.new-reader.ensures.refused (sym c.in-Some.ensures) c.in_ok-push_node.ensures.read

pub into_tree-tree-requires : goal.into_tree-tree-requires
into_tree-tree-requires c =
    list_spells _ (node c.in_ok-push_node.ensures.made none)
    (one_list _ c.new-builder.result c.push_node.new.builder _ _ c.new-builder.ensures.list
    c.new-builder.ensures.count c.in_ok-push_node.ensures)

pub returns-then-begins_with_element : goal.returns-then-begins_with_element
returns-then-begins_with_element c =
    let read = c.in_ok-push_node.ensures in
    let spells : tree_nodes c.into_tree-tree.result ≡ node read.made none
    = c.into_tree-tree.ensures
    ∙ list_spelled _ (node read.made none)
    (one_list _ c.new-builder.result c.push_node.new.builder _ _ c.new-builder.ensures.list
    c.new-builder.ensures.count read) in
    tree_read (view c.args.value) read.made c.new-reader.result c.push_node.new.reader
    c.into_tree-tree.result c.new-reader.ensures.mark c.new-reader.ensures.refused
    (search rules) read.read spells (search rules)

pub returns : goal.returns
returns c =
    let read = c.in_ok-push_node.ensures in
    let spells : tree_nodes c.into_tree-tree.result ≡ node read.made none
    = c.into_tree-tree.ensures
    ∙ list_spelled _ (node read.made none)
    (one_list _ c.new-builder.result c.push_node.new.builder _ _ c.new-builder.ensures.list
    c.new-builder.ensures.count read) in
    tree_left (view c.args.value) read.made c.new-reader.result c.push_node.new.reader
    c.into_tree-tree.result c.new-reader.ensures.mark c.new-reader.ensures.refused
    (search rules) read.read spells (search rules)
