-- The node at a place of a list that is held.
use Rattle.std.proofs.Common.{◌≡◌, ℕ, zero, suc, ◌<◌, ◌≤◌, List, [], ◌∷◌, length, get_or, Some, None, refl, sym, ap, arith}
use Rattle.html_dom_tree.specs.{ByIndex.{node_at}, Views.{node_view, nodes_view}, declared.node.HtmlNode.{HtmlNode}}

pub node_within : (ns : List HtmlNode) (i : ℕ) (n : HtmlNode) → i < length ns → n ≡ get_or ns i n →
    node_at (nodes_view ns) i ≡ Some (node_view n)
node_within [] i n inside is = absurd (omega arith)
node_within (m ∷ ms) zero n inside is = ap (λ m. Some (node_view m)) (sym is)
node_within (m ∷ ms) (suc i) n inside is = node_within ms i n (omega arith) is

pub none_past : (ns : List HtmlNode) (i : ℕ) → length ns ≤ i → node_at (nodes_view ns) i ≡ None
none_past [] i past = refl
none_past (m ∷ ms) zero past = absurd (omega arith)
none_past (m ∷ ms) (suc i) past = none_past ms i (omega arith)
