-- The HTML text of items, and the faults that prevent it: those of their document with anchors.
use Rattle.std.specs.Prelude.{ℕ, List, [], ◌++◌, map}
use Rattle.html_dom_tree.specs.Tree.{NodeView, ElementView}
use Rattle.html_dom_document.specs.Documents.{InfoView, DocumentView, document_root}
use Rattle.html_anchors.specs.Links.{document_with_links}
use Rattle.typst_html_encode.specs.ExportFaults as writing
use Rattle.typst_html_encode.specs.{FaultViews.{ExportFaultView, export_fault_view}, FrameWriters.{Frames}, Text.{document_text}}
use Rattle.typst_html_encode.specs.declared.options.HtmlOptions.{HtmlOptions}
use Rattle.html_flow_convert.specs.Items.{ItemsView}
use Rattle.typst_html_export.specs.{Assembled.{items_document_faults}, Linked.{linked_document, linked_document_with_head}}

-- the root, with these nodes of the caller's at the end of its head
abbrev pub linked_root_with_head : InfoView → (head : List NodeView)
    → (items notes : ItemsView) → ElementView
linked_root_with_head info head items notes =
    document_root (linked_document_with_head info head items notes)

abbrev pub linked_root : InfoView → (items notes : ItemsView) → ElementView
linked_root info = linked_root_with_head info []

abbrev pub export_text_with_head : Frames → HtmlOptions → InfoView → (head : List NodeView)
    → (items notes : ItemsView) → List ℕ
export_text_with_head frames options info head items notes =
    document_text frames options (linked_root_with_head info head items notes)

abbrev pub export_text : Frames → HtmlOptions → InfoView → (items notes : ItemsView) → List ℕ
export_text frames options info = export_text_with_head frames options info []

-- the document of items once its links are resolved
abbrev pub resolved_document : InfoView → (items notes : ItemsView) → DocumentView
resolved_document info items notes = document_with_links (linked_document info items notes)

abbrev pub resolved_root : InfoView → (items notes : ItemsView) → ElementView
resolved_root info items notes = document_root (resolved_document info items notes)

abbrev pub export_linked_text :
    Frames → HtmlOptions → InfoView → (items notes : ItemsView) → List ℕ
export_linked_text frames options info items notes =
    document_text frames options (resolved_root info items notes)

-- the faults of writing a tree with this root
abbrev pub root_faults : Frames → HtmlOptions → ElementView → List ExportFaultView
root_faults frames options root =
    map export_fault_view (writing.document_faults frames options root)

-- all faults of writing the text of items: first those of making their document, whatever its head
-- is, then those of writing its tree
abbrev pub export_faults_with_head : (limit : ℕ) → Frames → HtmlOptions → InfoView
    → (head : List NodeView) → (items notes : ItemsView) → List ExportFaultView
export_faults_with_head limit frames options info head items notes =
    items_document_faults limit items notes
    ++ root_faults frames options (linked_root_with_head info head items notes)

abbrev pub export_faults : (limit : ℕ) → Frames → HtmlOptions → InfoView → (items notes : ItemsView)
    → List ExportFaultView
export_faults limit frames options info = export_faults_with_head limit frames options info []

-- the same if links are resolved before the tree is written
abbrev pub export_linked_faults : (limit : ℕ) → Frames → HtmlOptions → InfoView
    → (items notes : ItemsView) → List ExportFaultView
export_linked_faults limit frames options info items notes = items_document_faults limit items notes
    ++ root_faults frames options (resolved_root info items notes)
