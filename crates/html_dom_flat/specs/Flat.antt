-- A tree as one list of its nodes at all depths, in the order in which they are written.
use Rattle.std.specs.Prelude.{◌≡◌, ℕ, zero, suc, ◌+◌, ◌-◌, List, [], ◌∷◌, ◌++◌}
use Rattle.html_dom_tree.specs.Frames.{HtmlFrameView}
use Rattle.html_dom_tree.specs.Tree.{TagView, Head, NodeView, tag_node, text_node, element_node, frame_node, NodesView, none, node, ElementView}

-- a node in the list; an element has the index after the last node inside it
pub data FlatNodeView : Type 0 where
  flat_tag : TagView → FlatNodeView
  flat_text : (content : List ℕ) (span : ℕ) → FlatNodeView
  flat_frame : HtmlFrameView → FlatNodeView
  flat_element : (head : Head) (past : ℕ) → FlatNodeView
  deriving IsSet as FlatNodeView-set

-- the number of nodes at all depths
unfoldable mutual
  pub node_count : NodeView → ℕ
  node_count (tag_node t) = 1
  node_count (text_node s span) = 1
  node_count (element_node h ns) = 1 + nodes_count ns
  node_count (frame_node f) = 1

  pub nodes_count : NodesView → ℕ
  nodes_count none = 0
  nodes_count (node n ns) = node_count n + nodes_count ns

-- the list of nodes, whose first item has that index
unfoldable mutual
  pub node_flat : (index : ℕ) → NodeView → List FlatNodeView
  node_flat index (tag_node t) = flat_tag t ∷ []
  node_flat index (text_node s span) = flat_text s span ∷ []
  node_flat index (element_node h ns) =
      flat_element h (index + 1 + nodes_count ns) ∷ nodes_flat (index + 1) ns
  node_flat index (frame_node f) = flat_frame f ∷ []

  pub nodes_flat : (index : ℕ) → NodesView → List FlatNodeView
  nodes_flat index none = []
  nodes_flat index (node n ns) = node_flat index n ++ nodes_flat (index + node_count n) ns

abbrev pub element_flat : (index : ℕ) → ElementView → List FlatNodeView
element_flat index e =
    flat_element e.0 (index + 1 + nodes_count e.1) ∷ nodes_flat (index + 1) e.1

-- the leading nodes that make `count` nodes at all depths, and the nodes after them
unfoldable pub front : (count : ℕ) → NodesView → NodesView
front zero ns = none
front (suc k) none = none
front (suc k) (node n ns) = node n (front (suc k - node_count n) ns)

unfoldable pub back : (count : ℕ) → NodesView → NodesView
back zero ns = ns
back (suc k) none = none
back (suc k) (node n ns) = back (suc k - node_count n) ns

-- the nodes that a list spells, whose first item has that index: an element's children are the
-- nodes before its `past`
unfoldable pub spelled_nodes : (index : ℕ) → List FlatNodeView → NodesView
spelled_nodes index [] = none
spelled_nodes index (flat_tag t ∷ fs) = node (tag_node t) (spelled_nodes (index + 1) fs)
spelled_nodes index (flat_text s span ∷ fs) =
    node (text_node s span) (spelled_nodes (index + 1) fs)
spelled_nodes index (flat_frame f ∷ fs) = node (frame_node f) (spelled_nodes (index + 1) fs)
spelled_nodes index (flat_element h past ∷ fs) =
    let others = spelled_nodes (index + 1) fs in
    let count = past - (index + 1) in
    node (element_node h (front count others)) (back count others)

-- a list, whose first item has that index, is the list of the nodes that it spells
abbrev pub IsSpelling : (index : ℕ) → List FlatNodeView → Type 0
IsSpelling index fs = nodes_flat index (spelled_nodes index fs) ≡ fs

-- the index after a node and everything inside it, given the index `next` after the node alone
abbrev pub past_of : (next : ℕ) → FlatNodeView → ℕ
past_of next (flat_tag t) = next
past_of next (flat_text s span) = next
past_of next (flat_frame f) = next
past_of next (flat_element h past) = past
