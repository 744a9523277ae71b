-- The rest of a walk along a list of nodes.
use Rattle.std.specs.Prelude.{ℕ, List, map}
use Rattle.html_dom_tree.specs.declared.node.HtmlNode.{HtmlNode}
use Rattle.html_dom_document.specs.{Cursor.{nodes_with_indices}, declared.dom_indices.DomIndices.{DomIndices}}

-- the nodes that are left, with their indices
abbrev pub pairs_left : DomIndices → List (HtmlNode × ℕ)
pairs_left walk = nodes_with_indices walk.cursor walk.nodes.now

-- the indices alone
abbrev pub indices_left : DomIndices → List ℕ
indices_left walk = map (λ pair. pair.1) (pairs_left walk)
