-- The last of nodes that were made.
use Rattle.std.proofs.Common.{◌≡◌, List, [], ◌∷◌, ◌++◌, refl}
use Rattle.html_dom_tree.specs.{Views.{node_view, nodes_view}, declared.node.HtmlNode.{HtmlNode}}
use Rattle.html_clean_nodes.specs.Cleaned.{end_apart, is_gap}

pub last_apart : (ns : List HtmlNode) (n : HtmlNode) →
    end_apart (nodes_view (ns ++ n ∷ [])) ≡ is_gap (node_view n)
last_apart [] n = refl
last_apart (m ∷ []) n = refl
last_apart (m ∷ k ∷ ks) n = last_apart (k ∷ ks) n
