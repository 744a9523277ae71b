-- Documents of items with anchors for all locations that links lead to.
use Rattle.std.specs.Prelude.{◌≡◌, ℕ, Bool, true, List, [], Some}
use Rattle.html_dom_tree.specs.{FrameFree.{ElementIsFrameFree}, Tree.{NodeView}}
use Rattle.html_names_core.specs.Names.{stands_in}
use Rattle.html_dom_document.specs.Documents.{InfoView, DocumentView, document_root}
use Rattle.html_flow_convert.specs.Items.{ItemsView}
use Rattle.html_links.specs.TreeNames.{first_ids}
use Rattle.html_anchors.specs.LinkAnchors.{document_with_new_anchors, document_anchor}
use Rattle.typst_html_export.specs.Assembled.{assembled_document_with_head}

-- a document with anchors for these locations, and with their names
abbrev pub document_with_known_anchors : (is_target : ℕ → Bool) → DocumentView → DocumentView
document_with_known_anchors is_target d = record (document_with_new_anchors is_target d) {
  introspector = record d.introspector { anchor = document_anchor is_target d };
}

-- a document with anchors for all locations that recorded links lead to
abbrev pub document_with_anchors : DocumentView → DocumentView
document_with_anchors d = document_with_known_anchors d.introspector.is_link_target d

-- the document of items, with these nodes at the end of its head
abbrev pub linked_document_with_head : InfoView → (head : List NodeView)
    → (items notes : ItemsView) → DocumentView
linked_document_with_head info head items notes =
    document_with_anchors (assembled_document_with_head info head items notes)

abbrev pub linked_document : InfoView → (items notes : ItemsView) → DocumentView
linked_document info = linked_document_with_head info []

-- in a document without frames each anchor is the first `id` of an element below the root
abbrev pub AnchorsAreFirstIds : DocumentView → Type 0
AnchorsAreFirstIds d = ElementIsFrameFree (document_root d) → (location : ℕ) (name : List ℕ) →
    d.introspector.anchor location ≡ Some name →
    stands_in (first_ids (document_root d).1) name ≡ true
