-- The part of a tree that stands in its document: all but the contents of each `template` (HTML
-- Standard 4.12.3).
use Rattle.std.specs.Prelude.{ℕ, Bool, true, false, not, ◌||◌, List, codes, bytes_eq}
use Rattle.html_dom_tree.specs.Tree.{NodeView, tag_node, text_node, element_node, frame_node, NodesView, none, node, ElementView}
use Rattle.html_links.specs.{Indicated.{element_places}, TreeNames.{Name}}

abbrev pub is_template : (name : List ℕ) → Bool
is_template name = bytes_eq name (codes "template")

abbrev pub kept : (are_kept : Bool) → NodesView → NodesView
kept true ns = ns
kept false ns = none

-- whether the children of an element with that name belong to the whole tree, or to its document
abbrev pub keeps : (whole : Bool) → (name : List ℕ) → Bool
keeps whole name = whole || not (is_template name)

-- the nodes of the whole tree, or those that stand in its document
unfoldable mutual
  pub node_part : (whole : Bool) → NodeView → NodeView
  node_part whole (tag_node t) = tag_node t
  node_part whole (text_node s span) = text_node s span
  node_part whole (element_node h kids) =
      element_node h (kept (keeps whole h.name) (nodes_part whole kids))
  node_part whole (frame_node f) = frame_node f

  pub nodes_part : (whole : Bool) → NodesView → NodesView
  nodes_part whole none = none
  nodes_part whole (node n ns) = node (node_part whole n) (nodes_part whole ns)

abbrev pub element_part : (whole : Bool) → ElementView → ElementView
element_part whole e = (e.0, kept (keeps whole e.0.name) (nodes_part whole e.1))

-- an element without the contents of each `template`
abbrev pub in_document : ElementView → ElementView
in_document = element_part false

-- the names of the places in the document
abbrev pub document_places : ElementView → List Name
document_places e = element_places (in_document e)
