-- Documents of items in plain flow: what is seen of their text is exactly the items' text.
use Rattle.std.proofs.{Common.{◌≡◌, Bool, true, false, List, [], None, Some, ap, sym, subst, ◌∙◌}, lemmas.Bool.{both_ways}}
use Rattle.html_names_core.specs.Kinds.{is_raw}
use Rattle.html_dom_tree.specs.{PlainTree.{nodes_normal}, Styled.{styled_nodes}, Tree.{Head, NodeView, NodesView, ElementView}}
use Rattle.html_dom_tree.specs.Views.{nodes_of}
use Rattle.html_dom_shown.specs.{Bodies.{body_children}, Collapsing.{collapsed_pieces}, SeenBodies.{seen_plains, seen_tree}}
use Rattle.typst_html_encode.specs.ExportFaults as writing
use Rattle.typst_html_encode.proofs.ReadingBack.{reads_back}
use Rattle.typst_html_encode.specs.{FrameWriters.{Frames}, Indented.{NodeEndsWell}, IndentsCollapse.{NodesAreEdged}}
use Rattle.typst_html_encode.specs.{ReadingBack.{ElementIsNamed}, Text.{document_text}}
use Rattle.html_dom_document.specs.Documents.{InfoView, DocumentView, document_root}
use Rattle.html_anchors.specs.{Anchors.{element_with_anchors}, Links.{Hrefs, root_with_links}}
use Rattle.html_flow_convert.specs.Items.{ItemsView, no_items}
use Rattle.typst_html_spaces.proofs.{Anchored.{anchors_are_unseen, anchors_keep_edges}, DeepNodes.{of_both}}
use Rattle.typst_html_spaces.proofs.PlainNodes.{makes_plain_nodes, plain_readable}
use Rattle.typst_html_spaces.proofs.ReadableNodes.{readable_can_be_read, anchors_keep_readable, anchors_keep_body}
use Rattle.typst_html_spaces.proofs.{SeenBody.{plain_tree_seen, pretty_tree_seen}, SpacesStay.{spaces_stay}}
use Rattle.typst_html_spaces.specs.{Anchored.{Anchored, IsAny}, ItemText.{items_text}, PlainFlow.{is_plain_flow}}
use Rattle.typst_html_spaces.specs.{ReadableNodes.{AreReadable}, SeenBody.{seen_text}}
use Rattle.typst_html_export.proofs.{AnchoredRoots.{root_anchored}, LinkedRoots.{nodes_linked}}
use Rattle.typst_html_export.proofs.PlainRoots.{assembled_root_is, entries_with, root_over, body_is, made_not_raw, entries_readable, root_readable, linked_root_is}
use Rattle.typst_html_export.specs.{Assembled.{assembled_document, document_nodes}, DocumentHead.{entry_nodes}}
use Rattle.typst_html_export.specs.{Exported.{linked_root, linked_root_with_head}, Linked.{linked_document_with_head}}
use Rattle.typst_html_export.specs.SpacesInDocuments.{PlainDocumentsAreSeen, PlainLinkedDocumentsAreSeen, IsShownAs, IsReadAs, PlainDocumentsAreRead, PlainLinkedDocumentsAreRead, SpacesAreLeft, SpacesAreShown}

-- a root that is not raw, in whose body exactly that text of items is seen, and what has indents is
-- a border
record ShowsItems (root : ElementView) (items : ItemsView) : Type 0 where
  not_raw : is_raw root.0.name ≡ false
  body : NodesView
  body_is : body_children root.1 ≡ Some body
  edged : NodesAreEdged body
  seen : seen_plains (nodes_normal body) ≡ items_text items

shown : {root : ElementView} {items : ItemsView} → ShowsItems root items → IsShownAs root items
shown {root} shows = record {
  plain = plain_tree_seen root shows.body shows.body_is ∙ ap Some shows.seen;
  pretty = pretty_tree_seen root shows.body shows.body_is shows.not_raw shows.edged
      ∙ ap Some shows.seen;
}

-- so is a root with anchors, or with the `href` of its links
still_shown : {h : Head} {ns ms : NodesView} {items : ItemsView} → Anchored IsAny ns ms →
    ShowsItems (h, ns) items → ShowsItems (h, ms) items
still_shown a shows =
    let new = anchors_keep_body _ _ shows.body a shows.body_is in
    record {
      not_raw = shows.not_raw;
      body = new.0;
      body_is = new.1;
      edged = anchors_keep_edges shows.body new.0 new.2 shows.edged;
      seen = ap collapsed_pieces (anchors_are_unseen shows.body new.0 new.2 false) ∙ shows.seen;
    }

-- a root without a raw element and without a frame can be read too

record ReadsAsItems (root : ElementView) (items : ItemsView) : Type 0 where
  readable : AreReadable root.1
  shows : ShowsItems root items

read_as : {root : ElementView} {items : ItemsView} → ReadsAsItems root items → IsReadAs root items
unfolding NodeEndsWell
read_as {root} reads =
    let both = readable_can_be_read root.1 reads.readable in
    record {
      frame_free = both.0;
      ends_well = (λ r. absurd (both_ways _ reads.shows.not_raw r), both.1 _);
      shown = shown reads.shows;
    }

still_read : {h : Head} {ns ms : NodesView} {items : ItemsView} → Anchored IsAny ns ms →
    ReadsAsItems (h, ns) items → ReadsAsItems (h, ms) items
still_read a reads = record {
  readable = anchors_keep_readable _ _ a reads.readable;
  shows = still_shown a reads.shows;
}

-- a root that is made of items in plain flow, with any nodes in its head

made_shown : (info : InfoView) (entries : List NodeView) (items : ItemsView) →
    is_plain_flow items ≡ true → ShowsItems (root_over info entries (document_nodes items)) items
made_shown info entries items e = record {
  not_raw = made_not_raw.0;
  body = styled_nodes (document_nodes items);
  body_is = body_is info entries (document_nodes items);
  edged = (makes_plain_nodes None items e).1;
  seen = spaces_stay None items e;
}

made_read : (info : InfoView) (head : List NodeView) (items : ItemsView) →
    AreReadable (nodes_of head) → is_plain_flow items ≡ true →
    ReadsAsItems (root_over info (entries_with info head) (document_nodes items)) items
made_read info head items own e = record {
  readable = root_readable info _ _
      (of_both _ false (entry_nodes info) head (entries_readable info) own)
      (plain_readable _ (makes_plain_nodes None items e).0);
  shows = made_shown info _ items e;
}

linked_shown : (info : InfoView) (head : List NodeView) (items : ItemsView) →
    is_plain_flow items ≡ true → ShowsItems (linked_root_with_head info head items no_items) items
unfolding element_with_anchors
linked_shown info head items e =
    let is = linked_root_is info head items e in
    let old = root_over info (entries_with info head) (document_nodes items) in
    subst (λ r. ShowsItems r items) (sym is.1)
    (still_shown (root_anchored is.0 old) (made_shown info _ items e))

linked_read : (info : InfoView) (head : List NodeView) (items : ItemsView) →
    AreReadable (nodes_of head) → is_plain_flow items ≡ true →
    ReadsAsItems (linked_root_with_head info head items no_items) items
unfolding element_with_anchors
linked_read info head items own e =
    let is = linked_root_is info head items e in
    let old = root_over info (entries_with info head) (document_nodes items) in
    subst (λ r. ReadsAsItems r items) (sym is.1)
    (still_read (root_anchored is.0 old) (made_read info head items own e))

-- without such nodes

pub plain_documents_are_read : PlainDocumentsAreRead
plain_documents_are_read info items e = read_as (linked_read info [] items tt e)

pub plain_linked_documents_are_read : PlainLinkedDocumentsAreRead
plain_linked_documents_are_read info items e hrefs =
    read_as (still_read (nodes_linked hrefs _) (linked_read info [] items tt e))

-- so in the text of such a root exactly the items' text is seen

text_is_seen : (frames : Frames) {root : ElementView} {items : ItemsView} → IsReadAs root items →
    ElementIsNamed root → (pretty : Bool) →
    writing.document_faults frames (record { pretty = pretty }) root ≡ [] →
    seen_text (document_text frames (record { pretty = pretty }) root) ≡ Some (items_text items)
text_is_seen frames is named false clean =
    ap seen_tree ((reads_back frames).0 _ named is.frame_free clean) ∙ is.shown.plain
text_is_seen frames is named true clean =
    ap seen_tree ((reads_back frames).1 _ named is.frame_free is.ends_well clean) ∙ is.shown.pretty

pub plain_documents_are_seen : PlainDocumentsAreSeen
plain_documents_are_seen info items e frames options named clean =
    text_is_seen frames (plain_documents_are_read info items e) named _ clean

pub plain_linked_documents_are_seen : PlainLinkedDocumentsAreSeen
plain_linked_documents_are_seen info items e hrefs frames options named clean =
    text_is_seen frames (plain_linked_documents_are_read info items e hrefs) named _ clean

pub spaces_are_left_without_anchors : (info : InfoView) (items notes : ItemsView)
    (d : DocumentView) → d ≡ assembled_document info items notes → SpacesAreLeft d items notes
spaces_are_left_without_anchors info items notes d is e alone =
    subst (λ r. IsReadAs r items)
    (sym (ap document_root (is ∙ ap (assembled_document info items) alone)
    ∙ assembled_root_is info [] items e)) (read_as (made_read info [] items tt e))

-- with nodes in the head
module _ (info : InfoView) (head : List NodeView) (items notes : ItemsView) (d : DocumentView)
    (is : d ≡ linked_document_with_head info head items notes) where
  root_is : notes ≡ no_items → linked_root_with_head info head items no_items ≡ document_root d
  root_is alone =
      sym (ap document_root is ∙ ap (λ n. linked_root_with_head info head items n) alone)

  pub spaces_are_left_with_head : AreReadable (nodes_of head) → SpacesAreLeft d items notes
  spaces_are_left_with_head own e alone =
      subst (λ r. IsReadAs r items) (root_is alone) (read_as (linked_read info head items own e))

  pub spaces_are_shown : SpacesAreShown d items notes
  spaces_are_shown e alone =
      subst (λ r. IsShownAs r items) (root_is alone) (shown (linked_shown info head items e))

pub spaces_are_left_with_links : (info : InfoView) (items notes : ItemsView) (hrefs : Hrefs)
    (d : DocumentView) → document_root d ≡ root_with_links hrefs (linked_root info items notes) →
    SpacesAreLeft d items notes
spaces_are_left_with_links info items notes hrefs d is e alone =
    subst (λ r. IsReadAs r items)
    (sym (is ∙ ap (λ n. root_with_links hrefs (linked_root info items n)) alone))
    (plain_linked_documents_are_read info items e hrefs)
