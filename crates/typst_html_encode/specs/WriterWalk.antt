-- Writing a tree node by node: the text of each step, and its faults.
use Rattle.std.specs.Prelude.{ℕ, Bool, true, false, not, ◌&&◌, List, [], ◌∷◌, ◌++◌, if◌then◌else◌}
use Rattle.html_dom_tree.specs.Tree.{Head, NodeView, tag_node, text_node, element_node, frame_node, NodesView, none, node, ElementView}
use Rattle.typst_html_encode.specs.Content.{content_kind, by_kind}
use Rattle.typst_html_encode.specs.ExportFaults.{text_faults, frame_faults, attrs_faults, void_faults, raw_content_faults, nodes_raw_faults}
use Rattle.typst_html_encode.specs.{FrameWriters.{Frames}, Layout.{raw_text, frame_text, indent_where, deeper, has_indent}}
use Rattle.typst_html_encode.specs.ReadingBack.{HeadIsNamed}
use Rattle.typst_html_encode.specs.Text.{escaping_of, start_tag_text, end_tag_text, ends_at_once, feed_text, escaped_text, nodes_raw_text, node_text}
use Rattle.typst_html_encode.specs.declared.escape.Escaping.TheVariants as escaping
use Rattle.typst_html_encode.specs.declared.{fault.ExportFault.{ExportFault}, layout.Margin.{Margin}, place.Place.{Place}}

abbrev pub has_nodes : NodesView → Bool
has_nodes none = false
has_nodes (node n ns) = true

-- the walk enters an element with that head and those children, and writes them one by one
abbrev pub is_element_entered : Head → NodesView → Bool
is_element_entered h ns =
    not (ends_at_once h) && by_kind (content_kind h.name) false false (has_nodes ns)

abbrev pub node_of : ElementView → NodeView
node_of e = element_node e.0 e.1

-- the text that the walk writes when it reaches an element: the text before the children if it
-- enters the element, and otherwise the whole element
abbrev pub element_first_text : Margin → ElementView → List ℕ
element_first_text margin e =
    start_tag_text e.0 ++ (if ends_at_once e.0 then [] else (feed_text e.0 e.1
    ++ by_kind (content_kind e.0.name)
    (raw_text margin e.0 (nodes_raw_text e.1) ++ end_tag_text e.0.name)
    (escaped_text escaping.Text (nodes_raw_text e.1) ++ end_tag_text e.0.name)
    (if has_nodes e.1 then [] else end_tag_text e.0.name)))

-- the faults of that text
abbrev pub element_first_faults : ElementView → List ExportFault
element_first_faults e =
    attrs_faults e.0.span e.0.attrs ++ (if ends_at_once e.0 then void_faults e.0.span e.1
    else by_kind (content_kind e.0.name)
    (raw_content_faults e.0 e.1)
    (nodes_raw_faults escaping.Text e.1)
    [])

-- the text that the walk writes when it reaches a node: a node that is not an element is written
-- whole
abbrev pub first_text : Frames → (pre_span : Bool) → Margin → NodeView → List ℕ
first_text frames pre_span margin (tag_node t) = []
first_text frames pre_span margin (text_node s span) = escaped_text (escaping_of pre_span) s
first_text frames pre_span margin (element_node h ns) = element_first_text margin (h, ns)
first_text frames pre_span margin (frame_node f) = frame_text margin (frames f margin.pretty)

abbrev pub first_faults : Frames → (pre_span pretty : Bool) → NodeView → List ExportFault
first_faults frames pre_span pretty (tag_node t) = []
first_faults frames pre_span pretty (text_node s span) = text_faults (escaping_of pre_span) span s
first_faults frames pre_span pretty (element_node h ns) = element_first_faults (h, ns)
first_faults frames pre_span pretty (frame_node f) = frame_faults f.span (frames f pretty)

-- the names in that text are valid
abbrev pub FirstIsNamed : NodeView → Type 0
FirstIsNamed (tag_node t) = Unit {0}
FirstIsNamed (text_node s span) = Unit {0}
FirstIsNamed (element_node h ns) = HeadIsNamed h
FirstIsNamed (frame_node f) = Unit {0}

-- the walk enters the node
abbrev pub node_is_entered : NodeView → Bool
node_is_entered (tag_node t) = false
node_is_entered (text_node s span) = false
node_is_entered (element_node h ns) = is_element_entered h ns
node_is_entered (frame_node f) = false

-- an element that the walk has entered and not left: the margin of what is inside it, whether an
-- indent is due after it, and the nodes after it
pub record OpenElementView : Type 0 where
  pub name : List ℕ
  pub pre_span : Bool
  pub margin : Margin
  pub due_after : Bool
  pub after : NodesView

abbrev pub open_element : Head → Margin → (due_after : Bool) → (after : NodesView) → OpenElementView
open_element h margin due_after after = record {
  name = h.name;
  pre_span = h.pre_span;
  margin = margin;
  due_after = due_after;
  after = after;
}

-- the text of nodes that are inside no element, one after another
abbrev pub outside_text : Frames → Margin → NodesView → List ℕ
outside_text frames margin none = []
outside_text frames margin (node n ns) =
    node_text frames false margin n ++ outside_text frames margin ns

-- the place of a node in the innermost open element
abbrev pub next_place : (outer : Margin) → List OpenElementView → Place
next_place outer [] = record { margin = outer; pre_span = false; has_indents = false }
next_place outer (o ∷ os) = record {
  margin = deeper o.margin;
  pre_span = o.pre_span;
  has_indents = o.margin.pretty;
}

-- what the walk writes when it reaches a node of that place: the indent before the node too
abbrev pub turn_text : Frames → Place → (due : Bool) → NodeView → List ℕ
turn_text frames place due n =
    indent_where (place.has_indents && has_indent due n) place.margin.level
    ++ first_text frames place.pre_span place.margin n

abbrev pub turn_faults : Frames → Place → NodeView → List ExportFault
turn_faults frames place n = first_faults frames place.pre_span place.margin.pretty n
