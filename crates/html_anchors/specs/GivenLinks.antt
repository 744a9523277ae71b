-- Where links lead: each link that got an `href` leads to a name that stands in the tree.
use Rattle.std.specs.Prelude.{◌≡◌, ℕ, true, List, [], ◌∷◌, ◌++◌, All, codes, Option, Some, None, if◌then◌else◌}
use lib.Utf8.{scalars}
use Rattle.html_names_core.specs.Names.{stands_in}
use Rattle.html_dom_tree.specs.Attributes.{first}
use Rattle.html_dom_tree.specs.Tree.{Head, NodeView, tag_node, text_node, element_node, frame_node, NodesView, none, node}
use Rattle.html_dom_document.specs.Documents.{DocumentView, document_root}
use Rattle.html_links.specs.{InDocument.{document_places}, Indicated.{LeadsTo, element_places}, TreeNames.{shown_names, Name}}
use Rattle.html_anchors.specs.{DocumentNames.{AnchorsAreShown}, Links.{Anchors, DeadLinkView, dest_before, is_open, nodes_dead_links}}

-- a link that got an `href`: its destination, and that `href`
abbrev pub GivenLink : Type 0
GivenLink = ℕ × List ℕ

abbrev pub given_by : (dest : ℕ) → Option (List ℕ) → List GivenLink
given_by dest None = []
given_by dest (Some href) = (dest, href) ∷ []

-- the link of an element in the old and in the new tree, behind tags with that destination, if it
-- got an `href`
abbrev pub given_link : Option ℕ → (old new : Head) → List GivenLink
given_link None old new = []
given_link (Some dest) old new =
    if is_open old then given_by dest (first new.attrs (codes "href")) else []

-- the links without an `href` in the old one of two trees of one shape that have one in the new
-- one, in document order
unfoldable mutual
  pub node_given_links : (dest : Option ℕ) → (old new : NodeView) → List GivenLink
  node_given_links dest (tag_node t) new = []
  node_given_links dest (text_node s span) new = []
  node_given_links dest (element_node h kids) (tag_node t) = []
  node_given_links dest (element_node h kids) (text_node s span) = []
  node_given_links dest (element_node h kids) (element_node g new) =
      given_link dest h g ++ nodes_given_links [] kids new
  node_given_links dest (element_node h kids) (frame_node f) = []
  node_given_links dest (frame_node f) new = []

  pub nodes_given_links : (before : List NodeView) → (old new : NodesView) → List GivenLink
  nodes_given_links before none new = []
  nodes_given_links before (node n ns) none = []
  nodes_given_links before (node n ns) (node m ms) =
      node_given_links (dest_before before) n m ++ nodes_given_links (n ∷ before) ns ms

abbrev pub document_given_links : (old new : DocumentView) → List GivenLink
document_given_links old new = nodes_given_links [] (document_root old).1 (document_root new).1

-- a link leads to the anchor of its destination among places with these names, and that anchor is
-- one of these ids
pub record LeadsAmong (anchor : Anchors) (places ids : List Name) (link : GivenLink) : Type 0 where
  pub name : Name
  pub leads : LeadsTo (stands_in places) link.1 name
  pub is_anchor : anchor link.0 ≡ Some name
  pub stands : stands_in ids name ≡ true

-- each anchor that the introspector knows stands in the tree
abbrev pub KnownAnchorsAreShown : DocumentView → Type 0
KnownAnchorsAreShown d = AnchorsAreShown d.introspector.anchor d

-- each anchor that the introspector knows is the name of a place, and so in no `template`
abbrev pub KnownAnchorsArePlaces : DocumentView → Type 0
KnownAnchorsArePlaces d =
    (location : ℕ) (name : Name) → d.introspector.anchor location ≡ Some name →
    stands_in (document_places (document_root d)) name ≡ true

abbrev pub AnchorsAreTexts : Anchors → Type 0
AnchorsAreTexts anchor =
    (location : ℕ) (name : Name) → anchor location ≡ Some name → scalars name ≡ true

-- each link that got an `href` leads to such a name of the new tree
abbrev pub GivenLinksLead : (old new : DocumentView) → Type 0
GivenLinksLead old new = let root = document_root new in
    All (LeadsAmong new.introspector.anchor (element_places root) (shown_names root.1))
    (document_given_links old new)

-- the links behind a start tag with a destination that have no `href`
abbrev pub links_without : NodesView → List DeadLinkView
links_without = nodes_dead_links (λ dest. None) []
