-- The nodes that a flat tree spells.
use Rattle.std.specs.Prelude.{◌≡◌, true, List, length}
use Rattle.html_dom_tree.specs.Tree.{NodesView}
use Rattle.html_dom_flat.specs.{Flat.{FlatNodeView, nodes_count, nodes_flat, spelled_nodes}, FlatViews.{flat_nodes_view, are_given}}
use Rattle.html_dom_flat.specs.declared.{flat_node.FlatNode.{FlatNode}, flat_tree.FlatTree.{FlatTree}}

abbrev pub tree_view : FlatTree → List FlatNodeView
tree_view tree = flat_nodes_view tree.names tree.nodes.items

-- the list of nodes that a flat tree spells
abbrev pub tree_nodes : FlatTree → NodesView
tree_nodes tree = spelled_nodes 0 (tree_view tree)

-- the list of a tree: the nodes that it spells, in the order in which they are written and as many
-- as they are, with numbers that are in its table
pub record IsListOf (tree : FlatTree) (nodes : List FlatNode) : Type 0 where
  pub list : flat_nodes_view tree.names nodes ≡ nodes_flat 0 (tree_nodes tree)
  pub given : are_given tree.names nodes ≡ true
  pub count : length nodes ≡ nodes_count (tree_nodes tree)
