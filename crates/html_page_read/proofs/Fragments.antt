-- The last of some nodes, and its children.
use Rattle.std.proofs.Common.{◌≡◌, List, [], ◌∷◌, ◌++◌, refl}
use Rattle.html_dom_tree.specs.{Views.{node_view, nodes_view}, declared.node.HtmlNode.{HtmlNode}}
use Rattle.html_page_read.specs.FragmentReading.{last_children, node_children}

pub last_of : (ns : List HtmlNode) (n : HtmlNode) →
    last_children (nodes_view (ns ++ n ∷ [])) ≡ node_children (node_view n)
last_of [] n = refl
last_of (m ∷ []) n = refl
last_of (m ∷ k ∷ ns) n = last_of (k ∷ ns) n
