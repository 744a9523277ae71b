-- The pure values of parts of a flat tree.
use Rattle.std.specs.Prelude.{◌≡◌, Option, Some, None}
use Rattle.html_names_core.specs.Texts.{text_view}
use Rattle.html_dom_tree.specs.FrameViews.{html_frame_view}
use Rattle.html_dom_tree.specs.Tree.{Head, NodeView, tag_node, text_node, element_node, frame_node, NodesView, none, node, ElementView}
use Rattle.html_dom_tree.specs.Views.{tag_view}
use Rattle.html_dom_flat.specs.Flat.{FlatNodeView, flat_tag, flat_text, flat_frame, flat_element, spelled_nodes}
use Rattle.html_dom_flat.specs.{FlatViews.{flat_head, flat_nodes_view}, declared.siblings.Element.{Element}, declared.siblings.Node.{Node}}
use Rattle.html_dom_flat.specs.declared.siblings.Node.TheVariants as kind
use Rattle.html_dom_flat.specs.declared.siblings.Siblings.{Siblings}

-- the nodes of consecutive siblings
abbrev pub siblings_view : Siblings → NodesView
siblings_view s = spelled_nodes s.first (flat_nodes_view s.names.now s.nodes.now)

-- an element apart from its children
abbrev pub head_view : Element → Head
head_view e = flat_head e.children.names.now e.flat.now

abbrev pub element_view : Element → ElementView
element_view e = (head_view e, siblings_view e.children)

abbrev pub node_view : Node → NodeView
node_view (kind.Tag t) = tag_node (tag_view t.now)
node_view (kind.Text s span) = text_node (text_view s.now) span.0
node_view (kind.Frame f) = frame_node (html_frame_view f.now)
node_view (kind.Element e) = element_node (head_view e) (siblings_view e.children)

-- the node of a list with these children, if it is an element
abbrev pub node_with : FlatNodeView → NodesView → NodeView
node_with (flat_tag t) ns = tag_node t
node_with (flat_text s span) ns = text_node s span
node_with (flat_frame f) ns = frame_node f
node_with (flat_element h past) ns = element_node h ns

-- the option holds the first of these nodes and the siblings after it, if there is a node
abbrev pub SplitsFirst : NodesView → Option (Node × Siblings) → Type 0
SplitsFirst ns None = ns ≡ none
SplitsFirst ns (Some parts) = ns ≡ node (node_view parts.0) (siblings_view parts.1)
