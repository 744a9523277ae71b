-- The root of a document that is made of items in plain flow, without footnotes.
use Rattle.std.proofs.Common.{◌≡◌, true, false, List, [], ◌∷◌, ◌++◌, None, Some, codes, refl, ap, ◌∙◌, append-nil}
use Rattle.html_names_core.specs.{Kinds.{is_raw}, Names.{stands_in}}
use Rattle.html_dom_tree.specs.Styled.{head_with_style, styled_node, styled_nodes}
use Rattle.html_dom_tree.specs.{Tree.{Head, NodeView, element_node, NodesView, none, node, ElementView, plain_head}, Views.{nodes_of}}
use Rattle.html_dom_shown.specs.Bodies.{body_children}
use Rattle.html_flow_convert.specs.{Converted.{item_nodes}, Depth.{item_too_deep}, Items.{ItemsView, no_items}, LoneNode.{node_list}}
use Rattle.html_flow_convert.specs.{Protected.{nodes_by_answers}, Runs.{blank_front, after_front}}
use Rattle.typst_html_encode.proofs.IndentsCollapse.{body_is_not_raw}
use Rattle.html_dom_document.specs.Documents.{InfoView, OutputView, DocumentView, node_of, root_of, given_root, with_root, document_root}
use Rattle.html_anchors.specs.{Anchors.{element_with_anchors}, Events.{Targets}, LinkAnchors.{document_targets}}
use Rattle.typst_html_spaces.proofs.{Each.{Each}, PlainNodes.{makes_plain_nodes, names_are_inside}, ReadableNodes.{styled_readable}}
use Rattle.typst_html_spaces.specs.{DeepNodes.{HoldsOf, of_heads}, PlainFlow.{is_plain_flow}, PlainNodes.{ArePlainNodes}}
use Rattle.typst_html_spaces.specs.ReadableNodes.{AreReadable}
use Rattle.typst_html_export.proofs.Entries.{of_entries}
use Rattle.typst_html_export.specs.Assembled.{first_own, nothing_own, document_outline, outline_by, shown_count, both_nodes, body_node, document_nodes, output_around, assembled_document_with_head}
use Rattle.typst_html_export.specs.DocumentHead.{made_node, charset_node, viewport_node, entry_nodes, lang_text}
use Rattle.typst_html_export.specs.{Exported.{linked_root_with_head}, SpacesInDocuments.{PlainDocumentsAreMade}}

-- plain nodes leave the document its own root and body

no_own : (ns : NodesView) → ArePlainNodes ns → first_own ns ≡ None
unfolding first_own
no_own none r = refl
no_own (node (element_node h kids) ns) r =
    let names = names_are_inside h.name r.0.0 in rw (names.0, names.1, no_own ns r.1) refl
no_own (node x ns) r = rw (no_own ns r.1) refl

module _ (items : ItemsView) (e : is_plain_flow items ≡ true) where
  pub plain_outline : document_outline (document_nodes items) ≡ nothing_own
  plain_outline = ap (outline_by (shown_count (document_nodes items)))
      (no_own _ (makes_plain_nodes None items e).0)

pub plain_documents_are_made : PlainDocumentsAreMade
unfolding item_too_deep
plain_documents_are_made limit items notes are =
    rw (are.alone, are.within, plain_outline items are.plain) refl

-- without footnotes the body is the nodes

nodes_of_list : (ns : NodesView) → nodes_of (node_list ns) ≡ ns
unfolding node_list
nodes_of_list none = refl
nodes_of_list (node n ns) = ap (node n) (nodes_of_list ns)

pub no_notes : (ns : NodesView) → both_nodes ns (document_nodes no_items) ≡ ns
unfolding node_list item_nodes blank_front after_front nodes_by_answers
no_notes ns = ap nodes_of (append-nil (node_list ns)) ∙ nodes_of_list ns

-- the root that is made with these entries in its head, with styles

abbrev pub head_of : (entries : List NodeView) → NodeView
head_of entries = made_node (codes "head") [] (nodes_of (charset_node ∷ viewport_node ∷ entries))

abbrev pub top_of : InfoView → Head
top_of info = plain_head (codes "html") ((codes "lang", lang_text info.locale) ∷ []) 0

abbrev pub inside_of : (entries : List NodeView) → NodesView → NodesView
inside_of entries ns = node (head_of entries) (node (body_node ns) none)

abbrev pub root_over : InfoView → (entries : List NodeView) → NodesView → ElementView
root_over info entries ns = (head_with_style (top_of info), styled_nodes (inside_of entries ns))

-- the entries of the information, and nodes behind them
abbrev pub entries_with : InfoView → (head : List NodeView) → List NodeView
entries_with info head = entry_nodes info ++ head

output_is : (info : InfoView) (head : List NodeView) (items : ItemsView) →
    is_plain_flow items ≡ true →
    output_around info head (document_nodes items) no_items
    ≡ record {
      nodes = node (node_of (root_over info (entries_with info head) (document_nodes items))) none;
      root = 0;
    }
unfolding styled_node
output_is info head items e = rw (plain_outline items e, no_notes (document_nodes items)) refl

with_new_root : (o : OutputView) (root : ElementView) →
    o ≡ record { nodes = node (node_of root) none; root = 0 } →
    (change : ElementView → ElementView) →
    given_root (root_of (with_root o (change (given_root (root_of o))))) ≡ change root
with_new_root o root is change = rw is refl

pub body_is : (info : InfoView) (entries : List NodeView) (ns : NodesView) →
    body_children (root_over info entries ns).1 ≡ Some (styled_nodes ns)
unfolding styled_node
body_is info entries ns = refl

-- it can be read back: there is no frame and no raw element

pub made_not_raw : (is_raw (codes "html") ≡ false) × (is_raw (codes "head") ≡ false)
    × (is_raw (codes "title") ≡ false) × (is_raw (codes "meta") ≡ false)
unfolding is_raw stands_in
made_not_raw = (refl, refl, refl, refl)

pub entries_readable : (info : InfoView) →
    Each (HoldsOf (of_heads (λ h. is_raw h.name ≡ false) ⊥) false) (entry_nodes info)
entries_readable = of_entries (HoldsOf (of_heads (λ h. is_raw h.name ≡ false) ⊥) false)
    (λ t. (made_not_raw.2, (tt, tt))) (λ name content. (made_not_raw.3, tt))

pub root_readable : (info : InfoView) (entries : List NodeView) (ns : NodesView) →
    AreReadable (nodes_of entries) → AreReadable ns → AreReadable (root_over info entries ns).1
root_readable info entries ns own r =
    styled_readable (inside_of entries ns) (
      (made_not_raw.1, ((made_not_raw.3, tt), ((made_not_raw.3, tt), own))),
      ((body_is_not_raw, r), tt),
    )

module _ (info : InfoView) (head : List NodeView) (items : ItemsView)
    (e : is_plain_flow items ≡ true) where
  pub assembled_root_is : document_root (assembled_document_with_head info head items no_items)
      ≡ root_over info (entries_with info head) (document_nodes items)
  assembled_root_is = ap (λ o. given_root (root_of o)) (output_is info head items e)

  -- the root with anchors
  pub linked_root_is : (x : Targets) × (linked_root_with_head info head items no_items
      ≡ element_with_anchors x (root_over info (entries_with info head) (document_nodes items)))
  linked_root_is =
      let d : DocumentView = assembled_document_with_head info head items no_items in
      let x : Targets = document_targets d.introspector.is_link_target d in (
        x,
        with_new_root _ _ (output_is info head items e) (λ root. element_with_anchors x root),
      )
