-- The base of a page's links: the `href` of its first `base` with one (HTML Standard 4.2.3).
use Rattle.std.specs.Prelude.{ℕ, Bool, false, not, ◌==◌, List, [], ◌∷◌, codes, bytes_eq, if◌then◌else◌, Option, Some, None}
use Rattle.html_dom_tree.specs.Attributes.{first, or_else}
use Rattle.html_dom_tree.specs.Tree.{TextPair, NodeView, tag_node, text_node, element_node, frame_node, NodesView, none, node, ElementView}
use Rattle.html_links.specs.{InDocument.{keeps}, Scripts.{past_blanks}}

abbrev pub own_base : (name : List ℕ) → (attrs : List TextPair) → Option (List ℕ)
own_base name attrs = if bytes_eq name (codes "base") then first attrs (codes "href") else None

-- the first in the document, in document order
unfoldable mutual
  pub node_base : NodeView → Option (List ℕ)
  node_base (tag_node t) = None
  node_base (text_node s span) = None
  node_base (element_node h kids) = or_else (own_base h.name h.attrs)
      (if keeps false h.name then nodes_base kids else None)
  node_base (frame_node f) = None

  pub nodes_base : NodesView → Option (List ℕ)
  nodes_base none = None
  nodes_base (node n ns) = or_else (node_base n) (nodes_base ns)

abbrev pub base_of : ElementView → Option (List ℕ)
base_of e = node_base (element_node e.0 e.1)

-- whether an address, without blanks before it, is neither empty nor a fragment alone
abbrev pub is_elsewhere : (url : List ℕ) → Bool
is_elsewhere [] = false
is_elsewhere (c ∷ cs) = not (c == 35)

-- whether a link to a fragment alone leads to the address of its base instead of its own page
abbrev pub leads_away : (base : Option (List ℕ)) → Bool
leads_away None = false
leads_away (Some href) = is_elsewhere (past_blanks href)

abbrev pub base_is_elsewhere : ElementView → Bool
base_is_elsewhere e = leads_away (base_of e)
