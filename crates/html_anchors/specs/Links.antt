-- Links that lead: an `a` without an `href` directly behind a start tag with a destination gets the
-- `href` that leads to that destination's anchor, if one does (this project's rule).
use Rattle.std.specs.Prelude.{ℕ, List, [], ◌∷◌, ◌++◌, Bool, not, ◌&&◌, Option, Some, None, bytes_eq, codes, if◌then◌else◌}
use Rattle.html_dom_tree.specs.{Attributes.{has_name}, Tags.{starts, ends}}
use Rattle.html_dom_tree.specs.Tree.{TagView, TextPair, Head, NodeView, tag_node, text_node, element_node, frame_node, NodesView, none, node, ElementView}
use Rattle.html_dom_document.specs.Documents.{DocumentView, document_root, with_root}
use Rattle.html_names_core.specs.Names.{stands_in}
use Rattle.html_links.specs.{Indicated.{element_places}, Spellings.{leading_href}}
pub use Rattle.html_links.specs.Spellings.{some_name}

-- the name of a location's anchor, if it has one
abbrev pub Anchors : Type 0
Anchors = ℕ → Option (List ℕ)

-- the `href` that leads to a location, if one does
abbrev pub Hrefs : Type 0
Hrefs = ℕ → Option (List ℕ)

-- the destination that counts behind a tag, given the one before it
abbrev pub tag_dest : TagView → Option ℕ → Option ℕ
tag_dest (starts location label None) dest = dest
tag_dest (starts location label (Some there)) dest = Some there
tag_dest (ends location) dest = dest

-- the destination of the nearest start tag that has one, from the nodes before a point, the nearest
-- first, with only tags between
abbrev pub dest_before : List NodeView → Option ℕ
dest_before [] = None
dest_before (tag_node t ∷ before) = tag_dest t (dest_before before)
dest_before (text_node s span ∷ before) = None
dest_before (element_node h kids ∷ before) = None
dest_before (frame_node f ∷ before) = None

-- whether an element is an `a` without an `href`
abbrev pub is_open : Head → Bool
is_open h = bytes_eq h.name (codes "a") && not (has_name h.attrs (codes "href"))

-- the destination of a link that has no `href`
abbrev pub open_dest : Head → Option ℕ → Option ℕ
open_dest h dest = if is_open h then dest else None

abbrev pub name_of : Anchors → Option ℕ → Option (List ℕ)
name_of anchor None = None
name_of anchor (Some dest) = some_name (anchor dest)

abbrev pub href_of : Hrefs → Option ℕ → Option (List ℕ)
href_of hrefs None = None
href_of hrefs (Some dest) = hrefs dest

-- the attributes with a new `href` in front, if there is one
abbrev pub attrs_with_href : Option (List ℕ) → List TextPair → List TextPair
attrs_with_href None attrs = attrs
attrs_with_href (Some href) attrs = (codes "href", href) ∷ attrs

abbrev pub head_with_link : Hrefs → Option ℕ → Head → Head
head_with_link hrefs dest h =
    record h { attrs = attrs_with_href (href_of hrefs (open_dest h dest)) h.attrs }

-- the nodes with each link at any depth changed, and nothing else; a list is processed with the
-- nodes before each node, the nearest first
unfoldable mutual
  pub node_with_links : Hrefs → (dest : Option ℕ) → NodeView → NodeView
  node_with_links hrefs dest (tag_node t) = tag_node t
  node_with_links hrefs dest (text_node s span) = text_node s span
  node_with_links hrefs dest (element_node h kids) =
      element_node (head_with_link hrefs dest h) (nodes_with_links hrefs [] kids)
  node_with_links hrefs dest (frame_node f) = frame_node f

  pub nodes_with_links : Hrefs → (before : List NodeView) → NodesView → NodesView
  nodes_with_links hrefs before none = none
  nodes_with_links hrefs before (node n ns) =
      node (node_with_links hrefs (dest_before before) n) (nodes_with_links hrefs (n ∷ before) ns)

abbrev pub root_with_links : Hrefs → ElementView → ElementView
root_with_links hrefs root = (root.0, nodes_with_links hrefs [] root.1)

-- the `href` of each location by the name of its anchor, given the names of places
abbrev pub anchor_hrefs : (is_place : List ℕ → Bool) → Anchors → Hrefs
anchor_hrefs is_place anchor = λ location. leading_href is_place (some_name (anchor location))

-- the `href` of each location in a document, by the anchors that its introspector knows and the
-- places of its tree
abbrev pub document_hrefs : DocumentView → Hrefs
document_hrefs d = anchor_hrefs (stands_in (element_places (document_root d))) d.introspector.anchor

-- a document whose root has its links
abbrev pub document_with_links : DocumentView → DocumentView
document_with_links d = record d {
  output = with_root d.output (root_with_links (document_hrefs d) (document_root d));
}

-- a link that leads nowhere: its span, and its destination
abbrev pub DeadLinkView : Type 0
DeadLinkView = ℕ × ℕ

abbrev pub dead_without : Option (List ℕ) → (span dest : ℕ) → List DeadLinkView
dead_without None span dest = (span, dest) ∷ []
dead_without (Some href) span dest = []

-- a link without an `href` to whose destination none leads
abbrev pub dead_link : Hrefs → Option ℕ → (span : ℕ) → List DeadLinkView
dead_link hrefs None span = []
dead_link hrefs (Some dest) span = dead_without (hrefs dest) span dest

-- all dead links of nodes, in document order
unfoldable mutual
  pub node_dead_links : Hrefs → (dest : Option ℕ) → NodeView → List DeadLinkView
  node_dead_links hrefs dest (tag_node t) = []
  node_dead_links hrefs dest (text_node s span) = []
  node_dead_links hrefs dest (element_node h kids) =
      dead_link hrefs (open_dest h dest) h.span ++ nodes_dead_links hrefs [] kids
  node_dead_links hrefs dest (frame_node f) = []

  pub nodes_dead_links : Hrefs → (before : List NodeView) → NodesView → List DeadLinkView
  nodes_dead_links hrefs before none = []
  nodes_dead_links hrefs before (node n ns) =
      node_dead_links hrefs (dest_before before) n ++ nodes_dead_links hrefs (n ∷ before) ns

-- the links of a document that are left without an `href` once its links are resolved
abbrev pub document_links_left : DocumentView → List DeadLinkView
document_links_left d = nodes_dead_links (document_hrefs d) [] (document_root d).1
