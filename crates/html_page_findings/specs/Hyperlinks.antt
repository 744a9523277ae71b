-- Hyperlinks: each `a` and each `area` with an `href` is one (HTML Standard 4.6.1).
use Rattle.std.specs.Prelude.{◌≡◌, ℕ, Bool, false, ◌&&◌, ◌||◌, List, codes, bytes_eq}
use Rattle.html_dom_tree.specs.Attributes.{has_name}
use Rattle.html_dom_tree.specs.Tree.{TextPair, Head, NodeView, tag_node, text_node, element_node, frame_node, NodesView, none, node, ElementView}

-- whether an element of that name is a link if it has an `href`
abbrev pub may_link : (name : List ℕ) → Bool
may_link name = bytes_eq name (codes "a") || bytes_eq name (codes "area")

abbrev pub is_hyperlink : (name : List ℕ) → (attrs : List TextPair) → Bool
is_hyperlink name attrs = may_link name && has_name attrs (codes "href")

abbrev pub HeadIsNoHyperlink : Head → Type 0
HeadIsNoHyperlink h = is_hyperlink h.name h.attrs ≡ false

-- no element at any depth is a hyperlink
abbrev mutual
  pub NodeHasNoHyperlink : NodeView → Type 0
  NodeHasNoHyperlink (tag_node t) = Unit {0}
  NodeHasNoHyperlink (text_node s span) = Unit {0}
  NodeHasNoHyperlink (element_node h ns) = HeadIsNoHyperlink h × NodesHaveNoHyperlink ns
  NodeHasNoHyperlink (frame_node f) = Unit {0}

  pub NodesHaveNoHyperlink : NodesView → Type 0
  NodesHaveNoHyperlink none = Unit {0}
  NodesHaveNoHyperlink (node n ns) = NodeHasNoHyperlink n × NodesHaveNoHyperlink ns

-- no element of a whole tree, including the root, is a hyperlink
abbrev pub ElementHasNoHyperlink : ElementView → Type 0
ElementHasNoHyperlink e = HeadIsNoHyperlink e.0 × NodesHaveNoHyperlink e.1
