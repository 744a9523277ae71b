-- The texts of a tree whose links are given an `href`.
use Rattle.std.proofs.Common.{◌≡◌, ℕ, suc, List, [], ◌∷◌, ◌++◌, Option, refl}
use Rattle.html_dom_tree.specs.Tree.{Head, NodeView, tag_node, text_node, element_node, frame_node, NodesView, none, node, ElementView}
use Rattle.html_anchors.specs.Links.{Hrefs, dest_before, head_with_link, node_with_links, nodes_with_links, root_with_links}
use Rattle.html_page_findings.specs.PlacedTexts.{Placed, TextKind, element_placed, head_texts, node_placed, nodes_placed, placed_at}

-- what is made of the texts stays where links are given an `href`, if it stays at each head
module _ {A : Type 0} (kind : TextKind) (hrefs : Hrefs) (made : List Placed → List A)
    (made-append : (ps qs : List Placed) → made (ps ++ qs) ≡ made ps ++ made qs)
    (head_stays : (path : List ℕ) (dest : Option ℕ) (h : Head) →
    made (placed_at path (head_texts kind (head_with_link hrefs dest h)))
    ≡ made (placed_at path (head_texts kind h))) where
  nodes_stay : (path : List ℕ) (i : ℕ) (before : List NodeView) (ns : NodesView) →
      made (nodes_placed kind path i (nodes_with_links hrefs before ns))
      ≡ made (nodes_placed kind path i ns)
  unfolding nodes_placed node_placed nodes_with_links node_with_links
  nodes_stay path i before none = refl
  nodes_stay path i before (node (tag_node t) ns) = nodes_stay path (suc i) (tag_node t ∷ before) ns
  nodes_stay path i before (node (text_node s span) ns) =
      nodes_stay path (suc i) (text_node s span ∷ before) ns
  nodes_stay path i before (node (element_node h kids) ns) =
      let here = path ++ i ∷ [] in
      simp (
        made-append,
        head_stays here (dest_before before) h,
        nodes_stay here 0 [] kids,
        nodes_stay path (suc i) (element_node h kids ∷ before) ns,
      ) refl
  nodes_stay path i before (node (frame_node f) ns) =
      simp (made-append, nodes_stay path (suc i) (frame_node f ∷ before) ns) refl

  pub tree_stays : (e : ElementView) →
      made (element_placed kind (root_with_links hrefs e)) ≡ made (element_placed kind e)
  unfolding node_placed
  tree_stays e = simp (made-append, nodes_stay [] 0 [] e.1) refl
