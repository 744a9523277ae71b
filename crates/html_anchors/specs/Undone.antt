-- The removal of what was added, at the nodes that the events and namings name.
use Rattle.std.specs.Prelude.{◌≡◌, List, [], ◌∷◌, ◌-◌, Bool, true, false, length, take, drop, Option, Some, None, is_some}
use Rattle.html_dom_tree.specs.Frames.{HtmlFrameView}
use Rattle.html_dom_tree.specs.Tree.{Head, NodeView, tag_node, text_node, element_node, frame_node, NodesView, none, node, ElementView}
use Rattle.html_links.specs.TreeNames.{Name}
use Rattle.html_anchors.specs.{Anchors.{nodes_size, element_namings, element_with_anchors}, Events.{Targets, Event, text, events}}
use Rattle.html_anchors.specs.Namings.{Naming}

-- the attributes of an element without the `id` that was added in front
abbrev pub without_id : (made : Option Name) → Head → Head
without_id None h = h
without_id (Some n) h = record h { attrs = drop 1 h.attrs }

-- the `id` of a frame before one was made
abbrev pub old_id : (made id : Option Name) → Option Name
old_id None id = id
old_id (Some n) id = None

abbrev pub unnamed_frame : Naming → HtmlFrameView → HtmlFrameView
unnamed_frame c f = record f {
  id = old_id c.made f.id;
  anchors = take (length f.anchors - length c.pairs) f.anchors;
}

-- the text in an added element
abbrev pub inner_node : NodeView → NodesView → NodeView
inner_node n none = n
inner_node n (node m ms) = m

-- the nodes without what was added; `added` if the first node is an element that was added after an
-- end tag
unfoldable pub nodes_undone : (added : Bool) → List Event → List Naming → NodesView → NodesView
nodes_undone added es cs none = none
nodes_undone true es cs (node n ns) = nodes_undone false es cs ns
nodes_undone false [] cs (node n ns) = node n ns
nodes_undone false (e ∷ es) [] (node n ns) = node n ns
nodes_undone false (e ∷ es) (c ∷ cs) (node (tag_node t) ns) =
    node (tag_node t) (nodes_undone (is_some c.made) es cs ns)
nodes_undone false (e ∷ es) (c ∷ cs) (node (text_node s span) ns) =
    node (text_node s span) (nodes_undone false es cs ns)
nodes_undone false (text ∷ es) (c ∷ cs) (node (element_node h kids) ns) =
    node (inner_node (element_node h kids) kids) (nodes_undone false es cs ns)
nodes_undone false (e ∷ es) (c ∷ cs) (node (element_node h kids) ns) =
    let inside = nodes_undone false es cs kids in
    node (element_node (without_id c.made h) inside)
    (nodes_undone false (drop (nodes_size inside) es) (drop (nodes_size inside) cs) ns)
nodes_undone false (e ∷ es) (c ∷ cs) (node (frame_node f) ns) =
    node (frame_node (unnamed_frame c f)) (nodes_undone false es cs ns)

-- removing what was added restores the old tree
abbrev pub ComesBack : Type 0
ComesBack = (x : Targets) (e : ElementView) →
    nodes_undone false (events x e.1) (element_namings x e) (element_with_anchors x e).1 ≡ e.1
