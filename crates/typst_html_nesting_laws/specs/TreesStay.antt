-- A tree in which nothing is misnested stays: a parser of pages makes the same tree of its text.
use Rattle.std.specs.Prelude.{◌≡◌, ℕ, ◌<◌, ◌≤◌, [], List, length, Some, Ok}
use Rattle.html_dom_tree.specs.{FrameFree.{ElementIsFrameFree}, PlainTree.{element_normal}}
use Rattle.html_dom_tree.specs.Tree.{Head, NodeView, tag_node, text_node, element_node, frame_node, NodesView, none, node, ElementView}
use Rattle.html_page_nesting.specs.Misnested.{misnested_nodes}
use Rattle.typst_html_encode.specs.{ExportFaults.{document_faults}, FrameWriters.{Frames}, Reader.{read}, ReadingBack.{ElementIsNamed}}
use Rattle.typst_html_encode.specs.Text.{plain_options, document_text}
use Rattle.html_page_stack.specs.Pages.{Notes, most_attrs}
use Rattle.html_page_read.specs.PageReading.{PageResult, page_read}

-- the reader of pages does not refuse the element in any tree: it has no more attributes than the
-- reader accepts
abbrev pub HeadIsReadable : Head → Type 0
HeadIsReadable h = length h.attrs ≤ most_attrs

-- the reader refuses no element for that, at any depth
unfoldable mutual
  pub NodeIsReadable : NodeView → Type 0
  NodeIsReadable (tag_node t) = Unit {0}
  NodeIsReadable (text_node s span) = Unit {0}
  NodeIsReadable (element_node h kids) = HeadIsReadable h × NodesAreReadable kids
  NodeIsReadable (frame_node f) = Unit {0}

  pub NodesAreReadable : NodesView → Type 0
  NodesAreReadable none = Unit {0}
  NodesAreReadable (node n ns) = NodeIsReadable n × NodesAreReadable ns

abbrev pub ElementIsReadable : ElementView → Type 0
ElementIsReadable e = NodeIsReadable (element_node e.0 e.1)

-- the report of a page without errors
abbrev pub no_notes : Notes
no_notes = record { count = 0; first = [] }

-- the element is read without an error, as it is but with tags dropped and texts joined
pub record IsReadBack (e : ElementView) (r : PageResult) : Type 0 where
  pub root : ElementView
  pub read : r ≡ Ok (root, no_notes)
  pub same : element_normal root ≡ element_normal e

-- a tree that browsers keep: it can be written, and nothing in it is misnested
pub record IsKept (frames : Frames) (e : ElementView) : Type 0 where
  pub named : ElementIsNamed e
  pub frame_free : ElementIsFrameFree e
  pub readable : ElementIsReadable e
  pub clean : document_faults frames plain_options e ≡ []
  pub nested : misnested_nodes e ≡ []

-- the reader of pages reads the plain text of such a tree as the tree, if a page may be as deep as
-- browsers allow
abbrev pub TreesStay : Type 0
TreesStay = (frames : Frames) (limit : ℕ) (e : ElementView) → IsKept frames e → 512 < limit →
    IsReadBack e (page_read limit (document_text frames plain_options e))

-- both readers, that of written texts and that of pages, read the same of the text
pub record IsReadAlike (text : List ℕ) (r : PageResult) : Type 0 where
  pub root : ElementView
  pub page : r ≡ Ok (root, no_notes)
  pub same : read text ≡ Some (element_normal root)

abbrev pub ReadersAgree : Type 0
ReadersAgree = (frames : Frames) (limit : ℕ) (e : ElementView) → IsKept frames e → 512 < limit →
    IsReadAlike (document_text frames plain_options e)
    (page_read limit (document_text frames plain_options e))
