-- The nodes and elements of a list by their indices.
use Rattle.std.specs.Prelude.{ℕ, zero, suc, Option, Some, None}
use Rattle.html_dom_tree.specs.Tree.{NodeView, tag_node, text_node, element_node, frame_node, NodesView, none, node, ElementView}

-- the node at an index of a list
abbrev pub node_at : NodesView → ℕ → Option NodeView
node_at none i = None
node_at (node n ns) zero = Some n
node_at (node n ns) (suc i) = node_at ns i

-- the element that a node is, if there is a node and it is one
abbrev pub as_element : Option NodeView → Option ElementView
as_element None = None
as_element (Some (tag_node t)) = None
as_element (Some (text_node s span)) = None
as_element (Some (element_node h ns)) = Some (h, ns)
as_element (Some (frame_node f)) = None

-- the element at an index of a list, if there is one
abbrev pub element_at_index : NodesView → ℕ → Option ElementView
element_at_index ns i = as_element (node_at ns i)
