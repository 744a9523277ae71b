-- Lists of nodes: from a place on, and with one more.
use Rattle.std.proofs.Common.{◌≡◌, ℕ, ◌+◌, ◌<◌, List, [], ◌∷◌, ◌++◌, drop, get_or, length, refl, ap}
use Rattle.html_dom_tree.specs.{Tree.{node, with_last}, Views.{node_view, nodes_view}, declared.node.HtmlNode.{HtmlNode}}
use Rattle.html_names_core.proofs.Basics.{from_place}

pub nodes_view-drop : (ns : List HtmlNode) (i : ℕ) (x : HtmlNode) →
    i < length ns → x ≡ get_or ns i x →
    nodes_view (drop i ns) ≡ node (node_view x) (nodes_view (drop (i + 1) ns))
nodes_view-drop ns i x within is = ap nodes_view (from_place ns i x within is)

pub with_last_view : (ns : List HtmlNode) (x : HtmlNode) →
    nodes_view (ns ++ x ∷ []) ≡ with_last (nodes_view ns) (node_view x)
with_last_view [] x = refl
with_last_view (n ∷ ns) x = ap (λ ms. node (node_view n) ms) (with_last_view ns x)
