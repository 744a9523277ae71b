-- Lists of nodes with one view are equally long.
use Rattle.std.proofs.Common.{◌≡◌, ℕ, suc, List, [], ◌∷◌, length, ap, refl}
use Rattle.html_dom_tree.specs.{Tree.{NodesView, none, node}, Views.{nodes_view}, declared.node.HtmlNode.{HtmlNode}}

abbrev count : NodesView → ℕ
count none = 0
count (node n ns) = suc (count ns)

counted : (xs : List HtmlNode) → count (nodes_view xs) ≡ length xs
counted [] = refl
counted (x ∷ xs) = ap suc (counted xs)

pub same_length : (xs ys : List HtmlNode) → nodes_view xs ≡ nodes_view ys → length xs ≡ length ys
same_length xs ys e = let p = counted xs in let q = counted ys in let r = ap count e in cc
