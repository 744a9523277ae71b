-- An element that replaces another at an index of a list of nodes.
use Rattle.std.proofs.Common.{◌≡◌, ℕ, zero, suc, true, List, [], ◌∷◌, set, refl, sym, ap, ◌∙◌, true≢false, rules}
use Rattle.html_dom_tree.specs.{Tree.{NodesView, none, node, ElementView}, Views.{node_view, nodes_view, element_view}}
use Rattle.html_dom_tree.specs.declared.node.{HtmlElement.{HtmlElement}, HtmlNode.{HtmlNode, the_lemmas}, HtmlNode.TheVariants.{Element}}
use Rattle.html_dom_document.specs.Documents.{node_of, is_element_at, with_element}

pub view-Element : (e : HtmlElement) → node_view (Element e) ≡ node_of (element_view e)
view-Element e = search (rules, the_lemmas)

-- the view of the list with that element at an index
pub set_is_seen : (ns : List HtmlNode) (i : ℕ) (e : HtmlElement) →
    nodes_view (set ns i (Element e)) ≡ with_element (nodes_view ns) i (element_view e)
set_is_seen [] i e = refl
set_is_seen (n ∷ ns) zero e = ap (λ m. node m (nodes_view ns)) (view-Element e)
set_is_seen (n ∷ ns) (suc i) e = ap (node (node_view n)) (set_is_seen ns i e)

-- an element is still at the index whose element was replaced
stands : (ns : NodesView) (i : ℕ) (e : ElementView) → is_element_at ns i ≡ true →
    is_element_at (with_element ns i e) i ≡ true
stands none i e there = absurd (true≢false (sym there))
stands (node n ns) zero e there = refl
stands (node n ns) (suc i) e there = stands ns i e there

pub put_stands : (ns : List HtmlNode) (i : ℕ) (e : HtmlElement) →
    is_element_at (nodes_view ns) i ≡ true →
    is_element_at (nodes_view (set ns i (Element e))) i ≡ true
put_stands ns i e there =
    ap (λ ms. is_element_at ms i) (set_is_seen ns i e) ∙ stands (nodes_view ns) i (element_view e) there
