-- Documents made from items (this project's rules; `html`, `head` and `body` are those of HTML
-- Standard 4.1 to 4.3): what surrounds the nodes, and what is refused.
use Rattle.std.specs.Prelude.{ℕ, ◌+◌, Bool, ◌||◌, ◌==◌, List, [], ◌∷◌, ◌++◌, codes, bytes_eq, if◌then◌else◌, Option, Some, None, option_map, map}
use Rattle.html_dom_tree.specs.{Attributes.{or_else}, Styled.{styled_nodes}}
use Rattle.html_dom_tree.specs.Tree.{Head, NodeView, tag_node, text_node, element_node, frame_node, NodesView, none, node, is_tag}
use Rattle.html_dom_tree.specs.Views.{nodes_of}
use Rattle.html_dom_document.specs.{Documents.{InfoView, OutputView, DocumentView, new_document}, Places.{is_named_html}}
use Rattle.html_flow_convert.specs.{Converted.{converted_nodes}, Depth.{items_too_deep}, Items.{ItemsView, no_items, item, item_span}}
use Rattle.html_flow_convert.specs.{LoneNode.{node_list}, declared.convert.ConversionLevel.TheVariants.{Block}}
use Rattle.html_flow_convert.specs.declared.convert.Whitespace.TheVariants.{Normal}
use Rattle.typst_html_encode.specs.FaultViews.{ExportFaultView, too_deep, not_alone, footnotes}
use Rattle.typst_html_export.specs.DocumentHead.{made_node, head_node, lang_text}

-- whether a document has an element of its own if this is among its nodes: an `html` or a `body`
abbrev pub is_own : Head → Bool
is_own h = is_named_html h || bytes_eq h.name (codes "body")

abbrev pub own_head : NodeView → Option Head
own_head (tag_node t) = None
own_head (text_node s span) = None
own_head (element_node h ns) = if is_own h then Some h else None
own_head (frame_node f) = None

-- an element and the number of nodes before it, with so many more nodes before
abbrev pub own_after : ℕ → ℕ × Head → ℕ × Head
own_after more own = (own.0 + more, own.1)

-- the first `html` or `body`, and its index
unfoldable pub first_own : NodesView → Option (ℕ × Head)
first_own none = None
first_own (node n ns) =
    or_else (option_map (λ h. (0, h)) (own_head n)) (option_map (own_after 1) (first_own ns))

-- the number of nodes other than tags
unfoldable pub shown_count : NodesView → ℕ
shown_count none = 0
shown_count (node n ns) = if is_tag n then shown_count ns else shown_count ns + 1

-- what a document has of its own: its root, at that index among the nodes; its body; nothing; or an
-- element of that name and span that is not alone
pub data Outline : Type 0 where
  own_html : (place : ℕ) → Outline
  own_body : Outline
  nothing_own : Outline
  own_among_others : (name : List ℕ) (span : ℕ) → Outline

abbrev pub outline_by : (shown : ℕ) → Option (ℕ × Head) → Outline
outline_by shown None = nothing_own
outline_by shown (Some own) =
    if shown == 1 then (if is_named_html own.1 then own_html own.0 else own_body)
    else own_among_others own.1.name own.1.span

abbrev pub document_outline : NodesView → Outline
document_outline ns = outline_by (shown_count ns) (first_own ns)

-- nodes, then others
abbrev pub both_nodes : NodesView → NodesView → NodesView
both_nodes ns others = nodes_of (node_list ns ++ node_list others)

abbrev pub body_node : NodesView → NodeView
body_node ns = made_node (codes "body") [] ns

-- the new root, with these nodes after its head
abbrev pub html_node : InfoView → (head : List NodeView) → NodesView → NodeView
html_node info head ns = made_node (codes "html") ((codes "lang", lang_text info.locale) ∷ [])
    (node (head_node info head) ns)

abbrev pub html_output : InfoView → (head : List NodeView) → NodesView → OutputView
html_output info head ns = record { nodes = node (html_node info head ns) none; root = 0 }

-- the output with what surrounds the nodes of a document and of its footnotes; a root that the
-- items bring has its own head, so it stays as it is
abbrev pub output_by : Outline → InfoView → (head : List NodeView) → (content notes : NodesView)
    → OutputView
output_by (own_html place) info head content notes = record { nodes = content; root = place }
output_by own_body info head content notes = html_output info head content
output_by nothing_own info head content notes =
    html_output info head (node (body_node (both_nodes content notes)) none)
output_by (own_among_others name span) info head content notes = html_output info head content

abbrev pub assembled_output : InfoView → (head : List NodeView) → (content notes : NodesView)
    → OutputView
assembled_output info head content notes =
    output_by (document_outline content) info head content notes

abbrev pub styled_output : OutputView → OutputView
styled_output o = record o { nodes = styled_nodes o.nodes }

-- the nodes of a document's items or of its footnotes
abbrev pub document_nodes : ItemsView → NodesView
document_nodes items = converted_nodes Block Normal None items

-- the document around nodes, from its information, the caller's nodes for its head, and footnotes
abbrev pub output_around : InfoView → (head : List NodeView) → (content : NodesView)
    → (notes : ItemsView) → OutputView
output_around info head content notes =
    styled_output (assembled_output info head content (document_nodes notes))

abbrev pub document_around : InfoView → (head : List NodeView) → (content : NodesView)
    → (notes : ItemsView) → DocumentView
document_around info head content notes = new_document (output_around info head content notes) info

-- the same around the nodes of items
abbrev pub assembled_document_with_head : InfoView → (head : List NodeView)
    → (items notes : ItemsView) → DocumentView
assembled_document_with_head info head items notes =
    document_around info head (document_nodes items) notes

abbrev pub assembled_document : InfoView → (items notes : ItemsView) → DocumentView
assembled_document info = assembled_document_with_head info []

abbrev pub item_spans : ItemsView → List ℕ
item_spans no_items = []
item_spans (item i role items) = item_span i ∷ item_spans items

-- the fault of footnotes beside an element of the document's own, even if they have no nodes
abbrev pub note_faults : (spans : List ℕ) → List ExportFaultView
note_faults [] = []
note_faults (span ∷ spans) = footnotes (span ∷ spans) ∷ []

abbrev pub outline_faults : Outline → (notes : ItemsView) → List ExportFaultView
outline_faults (own_html place) notes = note_faults (item_spans notes)
outline_faults own_body notes = note_faults (item_spans notes)
outline_faults nothing_own notes = []
outline_faults (own_among_others name span) notes = not_alone name span ∷ []

-- the faults of bodies that are too deep, from their spans
abbrev pub depth_faults : (spans : List ℕ) → List ExportFaultView
depth_faults = map too_deep

-- the faults of assembling a document from nodes and footnotes, whose list has the depth 1
abbrev pub assembly_faults : (limit : ℕ) (content : NodesView) (notes : ItemsView)
    → List ExportFaultView
assembly_faults limit content notes =
    outline_faults (document_outline content) notes ++ depth_faults (items_too_deep 1 limit notes)

-- all faults of making a document from items, in the order of refusal
abbrev pub items_document_faults : (limit : ℕ) (items notes : ItemsView) → List ExportFaultView
items_document_faults limit items notes = depth_faults (items_too_deep 0 limit items)
    ++ assembly_faults limit (document_nodes items) notes
