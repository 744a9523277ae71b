-- The base of a tree whose links are given an `href`.
use Rattle.std.proofs.Common.{◌≡◌, ◌&&◌, ℕ, Bool, true, false, not, List, [], ◌∷◌, Option, None, codes, bytes_eq, refl, ap}
use Rattle.std.{proofs.lemmas.Slice.Eq.{bytes_eq-Decides}, specs.Prelude.{if◌then◌else◌}}
use Rattle.html_dom_tree.specs.Attributes.{first, has_name}
use Rattle.html_dom_tree.specs.Tree.{Head, NodeView, tag_node, text_node, element_node, frame_node, NodesView, none, node, ElementView}
use Rattle.html_links.specs.Bases.{base_is_elsewhere, node_base, nodes_base, own_base}
use Rattle.html_anchors.specs.Links.{Hrefs, attrs_with_href, dest_before, head_with_link, href_of, node_with_links, nodes_with_links, root_with_links}

-- a `base` is no link
own_stays : (hrefs : Hrefs) (dest : Option ℕ) (h : Head) →
    own_base h.name (head_with_link hrefs dest h).attrs ≡ own_base h.name h.attrs
own_stays hrefs dest h = by (bytes_eq h.name (codes "base")) refl
  where
    no_link : (name : List ℕ) → name ≡ codes "base" → (lacks : Bool) →
        attrs_with_href (href_of hrefs (if bytes_eq name (codes "a") && lacks then dest else None))
        h.attrs ≡ h.attrs
    no_link name is lacks = rw is refl

    by : (b : Bool) → bytes_eq h.name (codes "base") ≡ b →
        (if b then first (head_with_link hrefs dest h).attrs (codes "href") else None)
        ≡ (if b then first h.attrs (codes "href") else None)
    by true is =
        ap (λ attrs. first attrs (codes "href"))
        (no_link h.name ((bytes_eq-Decides h.name (codes "base")).0 is)
        (not (has_name h.attrs (codes "href"))))
    by false is = refl

base_stays : (hrefs : Hrefs) (before : List NodeView) (ns : NodesView) →
    nodes_base (nodes_with_links hrefs before ns) ≡ nodes_base ns
unfolding nodes_with_links node_with_links nodes_base node_base
base_stays hrefs before none = refl
base_stays hrefs before (node (tag_node t) ns) = base_stays hrefs (tag_node t ∷ before) ns
base_stays hrefs before (node (text_node s span) ns) =
    base_stays hrefs (text_node s span ∷ before) ns
base_stays hrefs before (node (element_node h kids) ns) =
    rw (
      own_stays hrefs (dest_before before) h,
      base_stays hrefs [] kids,
      base_stays hrefs (element_node h kids ∷ before) ns,
    ) refl
base_stays hrefs before (node (frame_node f) ns) = base_stays hrefs (frame_node f ∷ before) ns

pub base_stays_elsewhere : (hrefs : Hrefs) (e : ElementView) →
    base_is_elsewhere (root_with_links hrefs e) ≡ base_is_elsewhere e
unfolding node_base
base_stays_elsewhere hrefs e = rw (base_stays hrefs [] e.1) refl
