-- Documents of items in plain flow: exactly the items' text is visible in their text.
use Rattle.std.specs.Prelude.{◌≡◌, ℕ, true, List, [], Some}
use Rattle.html_dom_tree.specs.{PlainTree.{element_normal}, Tree.{ElementView}}
use Rattle.html_dom_shown.specs.SeenBodies.{seen_tree}
use Rattle.typst_html_encode.specs.ExportFaults as writing
use Rattle.typst_html_encode.specs.{FrameWriters.{Frames}, Indented.{element_layout, ElementEndsWell}, ReadingBack.{ElementIsNamed}}
use Rattle.typst_html_encode.specs.{Text.{document_text}, declared.options.HtmlOptions.{HtmlOptions}}
use Rattle.html_dom_tree.specs.FrameFree.{ElementIsFrameFree}
use Rattle.html_dom_document.specs.Documents.{InfoView, DocumentView, document_root}
use Rattle.html_anchors.specs.Links.{Hrefs, root_with_links}
use Rattle.html_flow_convert.specs.{Depth.{items_too_deep}, Items.{ItemsView, no_items}}
use Rattle.typst_html_spaces.specs.{ItemText.{items_text}, PlainFlow.{is_plain_flow}, SeenBody.{seen_text}}
use Rattle.typst_html_export.specs.{Assembled.{items_document_faults}, Exported.{linked_root}}

-- items in plain flow without footnotes, none of which is too deep
pub record ArePlainItems (limit : ℕ) (items notes : ItemsView) : Type 0 where
  pub plain : is_plain_flow items ≡ true
  pub within : items_too_deep 0 limit items ≡ []
  pub alone : notes ≡ no_items

-- a document can be made from such items
abbrev pub PlainDocumentsAreMade : Type 0
PlainDocumentsAreMade = (limit : ℕ) (items notes : ItemsView) → ArePlainItems limit items notes →
    items_document_faults limit items notes ≡ []

-- exactly the text of these items is visible in the text of a document's root, plain or pretty, if
-- the root has no fault
abbrev pub IsSeenAs : ElementView → ItemsView → Type 0
IsSeenAs root items = (frames : Frames) (options : HtmlOptions) → ElementIsNamed root →
    writing.document_faults frames options root ≡ [] →
    seen_text (document_text frames options root) ≡ Some (items_text items)

-- this holds for a document made from items in plain flow, with its anchors
abbrev pub PlainDocumentsAreSeen : Type 0
PlainDocumentsAreSeen = (info : InfoView) (items : ItemsView) → is_plain_flow items ≡ true →
    IsSeenAs (linked_root info items no_items) items

-- this holds with the `href` of its links too, whatever it is
abbrev pub PlainLinkedDocumentsAreSeen : Type 0
PlainLinkedDocumentsAreSeen = (info : InfoView) (items : ItemsView) → is_plain_flow items ≡ true →
    (hrefs : Hrefs) → IsSeenAs (root_with_links hrefs (linked_root info items no_items)) items

-- a root with a body in which exactly that text of items is visible, as the tree is and as pretty
-- writing lays it out
pub record IsShownAs (root : ElementView) (items : ItemsView) : Type 0 where
  pub plain : seen_tree (Some (element_normal root)) ≡ Some (items_text items)
  pub pretty : seen_tree (Some (element_normal (element_layout root))) ≡ Some (items_text items)

-- such a root whose text reads as that tree: the plain text, and the pretty one, which has indents
pub record IsReadAs (root : ElementView) (items : ItemsView) : Type 0 where
  pub frame_free : ElementIsFrameFree root
  pub ends_well : ElementEndsWell true root
  pub shown : IsShownAs root items

-- this holds for the root of a document made from items in plain flow, with its anchors
abbrev pub PlainDocumentsAreRead : Type 0
PlainDocumentsAreRead = (info : InfoView) (items : ItemsView) → is_plain_flow items ≡ true →
    IsReadAs (linked_root info items no_items) items

-- this holds with the `href` of its links too, whatever it is
abbrev pub PlainLinkedDocumentsAreRead : Type 0
PlainLinkedDocumentsAreRead = (info : InfoView) (items : ItemsView) → is_plain_flow items ≡ true →
    (hrefs : Hrefs) → IsReadAs (root_with_links hrefs (linked_root info items no_items)) items

-- this holds for a document if its items are in plain flow and it has no footnotes
abbrev pub SpacesAreLeft : DocumentView → (items notes : ItemsView) → Type 0
SpacesAreLeft d items notes = is_plain_flow items ≡ true → notes ≡ no_items →
    IsReadAs (document_root d) items

-- with any nodes in its head, exactly the items' text is visible in the body of such a document
abbrev pub SpacesAreShown : DocumentView → (items notes : ItemsView) → Type 0
SpacesAreShown d items notes = is_plain_flow items ≡ true → notes ≡ no_items →
    IsShownAs (document_root d) items

-- exactly the items' text is visible in a text, if they are in plain flow and there are no
-- footnotes
abbrev pub SpacesAreSeen : (text : List ℕ) → (items notes : ItemsView) → Type 0
SpacesAreSeen text items notes = is_plain_flow items ≡ true → notes ≡ no_items →
    seen_text text ≡ Some (items_text items)
