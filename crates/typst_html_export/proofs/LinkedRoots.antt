-- The tree whose links lead is one to which an `href` was added at some elements. So the same is
-- seen of it, no frame comes or goes, and valid names stay valid.
use Rattle.std.proofs.Common.{◌≡◌, ℕ, List, [], ◌∷◌, Option, None, Some, refl}
use Rattle.html_dom_tree.specs.Tree.{TextPair, Head, NodeView, tag_node, text_node, element_node, frame_node, NodesView, none, node}
use Rattle.typst_html_encode.specs.ReadingBack.{PairsAreNamed, NodeIsNamed, NodesAreNamed}
use Rattle.html_anchors.specs.Links.{Hrefs, attrs_with_href, dest_before, href_of, node_with_links, nodes_with_links, open_dest}
use Rattle.typst_html_spaces.proofs.{Anchored.{anchors_are_unseen}, ReadableNodes.{anchors_keep_frame_free}}
use Rattle.typst_html_spaces.specs.Anchored.{NewAttribute, new_href, nothing, given, Anchored, IsAny}
use Rattle.typst_html_spaces.specs.Changed.{at_end, at_tag, at_text, at_element, at_frame}
use Rattle.typst_html_export.proofs.AnchoredRoots.{root_anchored}
use Rattle.typst_html_export.specs.LinkedRoots.{AnchorsKeepAtoms, LinksKeepAtoms, LinksKeepFrames, LinksKeepNames}

module _ (P : NewAttribute → List ℕ → Type 0) (hrefs : Hrefs)
    (each : (location : ℕ) (href : List ℕ) → hrefs location ≡ Some href → P new_href href) where
  head_linked : (href : Option (List ℕ)) {h : Head} {kids new ns ms : NodesView} →
      ((text : List ℕ) → href ≡ Some text → P new_href text) →
      Anchored P kids new → Anchored P ns ms →
      Anchored P (node (element_node h kids) ns)
      (node (element_node (record h { attrs = attrs_with_href href h.attrs }) new) ms)
  head_linked None holds q r = at_element nothing q r
  head_linked (Some href) holds q r = at_element (given new_href href (holds href refl)) q r

  each_given : (dest : Option ℕ) (href : List ℕ) → href_of hrefs dest ≡ Some href → P new_href href
  each_given None href is = cc
  each_given (Some location) href is = each location href is

  pub links_are_anchored : (before : List NodeView) (ns : NodesView) →
      Anchored P ns (nodes_with_links hrefs before ns)
  unfolding node_with_links
  links_are_anchored before none = at_end
  links_are_anchored before (node (tag_node t) ns) =
      at_tag (links_are_anchored (tag_node t ∷ before) ns)
  links_are_anchored before (node (text_node s span) ns) =
      at_text (links_are_anchored (text_node s span ∷ before) ns)
  links_are_anchored before (node (element_node h kids) ns) =
      head_linked _ (each_given (open_dest h (dest_before before))) (links_are_anchored [] kids)
      (links_are_anchored (element_node h kids ∷ before) ns)
  links_are_anchored before (node (frame_node f) ns) =
      at_frame (links_are_anchored (frame_node f ∷ before) ns)

pub nodes_linked : (hrefs : Hrefs) (ns : NodesView) →
    Anchored IsAny ns (nodes_with_links hrefs [] ns)
nodes_linked hrefs ns = links_are_anchored IsAny hrefs (λ location href is. tt) [] ns

-- atoms

pub anchors_keep_atoms : AnchorsKeepAtoms
anchors_keep_atoms x e = anchors_are_unseen e.1 _ (root_anchored x e)

pub links_keep_atoms : LinksKeepAtoms
links_keep_atoms hrefs e = anchors_are_unseen e.1 _ (nodes_linked hrefs e.1)

-- frames and names

pub links_keep_frames : LinksKeepFrames
links_keep_frames hrefs e = anchors_keep_frame_free e.1 _ (nodes_linked hrefs e.1)

href_named : (href : Option (List ℕ)) (attrs : List TextPair) → PairsAreNamed attrs →
    PairsAreNamed (attrs_with_href href attrs)
href_named None attrs named = named
href_named (Some n) attrs named = ((refl, refl), named)

nodes_named : (hrefs : Hrefs) (before : List NodeView) (ns : NodesView) → NodesAreNamed ns →
    NodesAreNamed (nodes_with_links hrefs before ns)
unfolding node_with_links NodeIsNamed
nodes_named hrefs before none named = tt
nodes_named hrefs before (node (element_node h kids) ns) named =
    let href = href_of hrefs (open_dest h (dest_before before)) in (
      ((named.0.0.0, href_named href h.attrs named.0.0.1), nodes_named hrefs [] kids named.0.1),
      nodes_named hrefs (element_node h kids ∷ before) ns named.1,
    )
nodes_named hrefs before (node n ns) named = (tt, nodes_named hrefs (n ∷ before) ns named.1)

pub links_keep_names : LinksKeepNames
unfolding NodeIsNamed
links_keep_names hrefs e named = (named.0, nodes_named hrefs [] e.1 named.1)
