-- The base of a list of nodes that is walked: one node after the other.
use Rattle.std.proofs.{Common.{◌≡◌, ℕ, ◌+◌, ◌≤◌, ◌<◌, length, get_or, drop, sym, List, Option, Some, None, ap, ◌∙◌}, lemmas.List.{drop_all}}
use Rattle.html_dom_tree.{proofs.Nodes.{nodes_view-drop}, specs.Attributes.{or_else}, specs.Views.{node_view, nodes_view}}
use Rattle.html_dom_tree.specs.declared.node.HtmlNode.{HtmlNode}
use Rattle.html_links.specs.Bases.{node_base, nodes_base}

module _ (ns : List HtmlNode) (i : ℕ) (x : HtmlNode) where
  abbrev left_base : Option (List ℕ)
  left_base = nodes_base (nodes_view (drop (i + 1) ns))

  in_turn : i < length ns → x ≡ get_or ns i x →
      nodes_base (nodes_view (drop i ns)) ≡ or_else (node_base (node_view x)) left_base
  unfolding nodes_base
  in_turn within is = ap nodes_base (nodes_view-drop ns i x within is)

  pub base_here : (href : List ℕ) (all : Option (List ℕ)) → i < length ns → x ≡ get_or ns i x →
      nodes_base (nodes_view (drop i ns)) ≡ all → Some href ≡ node_base (node_view x) →
      Some href ≡ all
  base_here href all within is so_far here =
      ap (λ base. or_else base left_base) here ∙ (sym (in_turn within is) ∙ so_far)

  pub base_behind : (all : Option (List ℕ)) → i < length ns → x ≡ get_or ns i x →
      nodes_base (nodes_view (drop i ns)) ≡ all → None ≡ node_base (node_view x) → left_base ≡ all
  base_behind all within is so_far here =
      ap (λ base. or_else base left_base) here ∙ (sym (in_turn within is) ∙ so_far)

pub no_base_left : (ns : List HtmlNode) (i : ℕ) (all : Option (List ℕ)) → length ns ≤ i →
    nodes_base (nodes_view (drop i ns)) ≡ all → None ≡ all
unfolding nodes_base
no_base_left ns i all past so_far =
    sym (ap (λ l. nodes_base (nodes_view l)) (drop_all i ns past)) ∙ so_far
