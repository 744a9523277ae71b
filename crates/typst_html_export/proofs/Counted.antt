-- Nodes that are counted from a place on.
use Rattle.std.proofs.Common.{◌≡◌, ℕ, ◌+◌, ◌<◌, ◌≤◌, List, ◌∷◌, length, get_or, drop, true, false, refl, ap, ◌∙◌}
use Rattle.std.proofs.lemmas.List.{at_drop_all}
use Rattle.html_dom_tree.specs.{Tree.{is_tag}, Views.{node_view, nodes_view}, declared.node.HtmlNode.{HtmlNode}}
use Rattle.typst_html_export.specs.Assembled.{shown_count}
use Rattle.html_names_core.proofs.Basics.{from_place}

module _ (nodes : List HtmlNode) (k : ℕ) (n : HtmlNode) (below : k < length nodes)
    (is : n ≡ get_or nodes k n) where
  abbrev left : ℕ
  left = shown_count (nodes_view (drop (k + 1) nodes))

  here : shown_count (nodes_view (drop k nodes)) ≡ shown_count (nodes_view (n ∷ drop (k + 1) nodes))
  here = ap (λ ns. shown_count (nodes_view ns)) (from_place nodes k n below is)

  pub tag_passed : is_tag (node_view n) ≡ true → shown_count (nodes_view (drop k nodes)) ≡ left
  unfolding shown_count
  tag_passed tag =
      let on : shown_count (nodes_view (n ∷ drop (k + 1) nodes)) ≡ left = rw tag refl in
      here ∙ on

  pub other_counted : is_tag (node_view n) ≡ false
      → shown_count (nodes_view (drop k nodes)) ≡ left + 1
  unfolding shown_count
  other_counted other =
      let on : shown_count (nodes_view (n ∷ drop (k + 1) nodes)) ≡ left + 1 = rw other refl in
      here ∙ on

pub all_counted : (nodes : List HtmlNode) (k : ℕ) → length nodes ≤ k
    → shown_count (nodes_view (drop k nodes)) ≡ 0
unfolding shown_count
all_counted nodes k past = at_drop_all (λ ns. shown_count (nodes_view ns)) nodes k past
