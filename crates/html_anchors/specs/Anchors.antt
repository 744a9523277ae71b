-- The tree with anchors, and the names of the locations (this project's rule): the old tree with
-- only these changes.
use Rattle.std.specs.Prelude.{ℕ, suc, ◌+◌, List, [], ◌∷◌, ◌++◌, drop, codes, Option, Some, None}
use Rattle.html_dom_tree.specs.{Attributes.{or_else}, Frames.{PointView, HtmlFrameView}}
use Rattle.html_dom_tree.specs.Tree.{TextPair, Head, NodeView, tag_node, text_node, element_node, frame_node, NodesView, none, node, ElementView, new_element}
use Rattle.html_names_core.specs.Names.{stands_in}
use Rattle.html_links.specs.TreeNames.{Name, element_names}
use Rattle.html_anchors.specs.{Events.{Targets, events}, Groups.{cuts}, Namings.{Naming, namings, all_answers, last_name}}

-- the attributes with a new `id` in front, if there is one
abbrev pub attrs_with_id : Option Name → List TextPair → List TextPair
attrs_with_id None attrs = attrs
attrs_with_id (Some n) attrs = (codes "id", n) ∷ attrs

abbrev pub with_id : Option Name → Head → Head
with_id n h = record h { attrs = attrs_with_id n h.attrs }

-- the head of a new `span` with that `id`
abbrev pub span_head : Name → (span : ℕ) → Head
span_head n span = with_id (Some n) (record (new_element (codes "span")).0 { span = span })

-- a text inside a new `span`, which has the text's span
abbrev pub text_in_span : Option Name → List ℕ → (span : ℕ) → NodeView
text_in_span None s span = text_node s span
text_in_span (Some n) s span = element_node (span_head n span) (node (text_node s span) none)

-- a new empty `span` after an end tag
abbrev pub span_before : Option Name → NodesView → NodesView
span_before None ns = ns
span_before (Some n) ns = node (element_node (span_head n 0) none) ns

-- a frame with a new `id`, and with more anchors after its own
abbrev pub named_frame :
    Option Name → (pairs : List (PointView × Name)) → HtmlFrameView → HtmlFrameView
named_frame made pairs f = record f { id = or_else f.id made; anchors = f.anchors ++ pairs }

-- the number of nodes at all depths
unfoldable pub nodes_size : NodesView → ℕ
nodes_size none = 0
nodes_size (node (tag_node t) ns) = suc (nodes_size ns)
nodes_size (node (text_node s span) ns) = suc (nodes_size ns)
nodes_size (node (element_node h kids) ns) = suc (nodes_size kids + nodes_size ns)
nodes_size (node (frame_node f) ns) = suc (nodes_size ns)

-- the nodes with these changes, by one naming for each node in document order
unfoldable pub nodes_with_anchors : List Naming → NodesView → NodesView
nodes_with_anchors cs none = none
nodes_with_anchors [] (node n ns) = node n ns
nodes_with_anchors (c ∷ cs) (node (tag_node t) ns) =
    node (tag_node t) (span_before c.made (nodes_with_anchors cs ns))
nodes_with_anchors (c ∷ cs) (node (text_node s span) ns) =
    node (text_in_span c.made s span) (nodes_with_anchors cs ns)
nodes_with_anchors (c ∷ cs) (node (element_node h kids) ns) =
    node (element_node (with_id c.made h) (nodes_with_anchors cs kids))
    (nodes_with_anchors (drop (nodes_size kids) cs) ns)
nodes_with_anchors (c ∷ cs) (node (frame_node f) ns) =
    node (frame_node (named_frame c.made c.pairs f)) (nodes_with_anchors cs ns)

abbrev pub element_namings : Targets → ElementView → List Naming
element_namings x e = namings (stands_in (element_names e)) (cuts [] (events x e.1))

-- the tree with anchors, in which the root has its old attributes
unfoldable pub element_with_anchors : Targets → ElementView → ElementView
element_with_anchors x e = (e.0, nodes_with_anchors (element_namings x e) e.1)

-- the name that a location gets, if it gets one
unfoldable pub anchor_of : Targets → ElementView → ℕ → Option Name
anchor_of x e l = last_name (all_answers (element_namings x e)) l
