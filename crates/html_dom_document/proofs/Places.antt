-- The node at a place of a list, where an element stands.
use Rattle.std.proofs.Common.{◌≡◌, ℕ, zero, suc, ◌<◌, ◌≤◌, true, false, List, [], ◌∷◌, length, get_or, Some, refl, sym, ap, ◌∙◌, arith, true≢false}
use Rattle.std.specs.Prelude.{is_some}
use Rattle.html_dom_tree.specs.Views.{node_view, nodes_view, element_view}
use Rattle.html_dom_tree.specs.declared.node.{HtmlElement.{HtmlElement}, HtmlNode.{HtmlNode}, HtmlNode.TheVariants.{Element}}
use Rattle.html_dom_document.specs.{Documents.{node_at, as_element, element_at_index, is_element_at}, RootPlaces.{view-Element}}

pub within : (ns : List HtmlNode) (i : ℕ) → is_element_at (nodes_view ns) i ≡ true → i < length ns
within [] i stands = absurd (true≢false (sym stands))
within (n ∷ ns) zero stands = omega arith
within (n ∷ ns) (suc i) stands = let rest = within ns i stands in omega (arith, rest)

pub seen_at : (ns : List HtmlNode) (i : ℕ) (x : HtmlNode) →
    is_element_at (nodes_view ns) i ≡ true → x ≡ get_or ns i x →
    node_at (nodes_view ns) i ≡ Some (node_view x)
seen_at [] i x stands is = absurd (true≢false (sym stands))
seen_at (n ∷ ns) zero x stands is = ap (λ m. Some (node_view m)) (sym is)
seen_at (n ∷ ns) (suc i) x stands is = seen_at ns i x stands is

pub is_element : (ns : List HtmlNode) (i : ℕ) (x : HtmlNode) →
    is_element_at (nodes_view ns) i ≡ true → x ≡ get_or ns i x →
    is_some (as_element (Some (node_view x))) ≡ true
is_element ns i x stands is =
    ap (λ n. is_some (as_element n)) (sym (seen_at ns i x stands is)) ∙ stands

pub element_seen : (ns : List HtmlNode) (i : ℕ) (x : HtmlNode) (e : HtmlElement) →
    is_element_at (nodes_view ns) i ≡ true → x ≡ get_or ns i x → x ≡ Element e →
    element_at_index (nodes_view ns) i ≡ Some (element_view e)
element_seen ns i x e stands is here =
    ap as_element (seen_at ns i x stands is)
    ∙ (ap (λ n. as_element (Some (node_view n))) here
    ∙ ap (λ n. as_element (Some n)) (view-Element e))

-- whether it is an element is asked of the node there; past the list there is none
pub element_test : (ns : List HtmlNode) (i : ℕ) (x : HtmlNode) → i < length ns →
    x ≡ get_or ns i x →
    is_some (as_element (Some (node_view x))) ≡ is_element_at (nodes_view ns) i
element_test [] i x inside is = absurd (omega arith)
element_test (n ∷ ns) zero x inside is = ap (λ m. is_some (as_element (Some (node_view m)))) is
element_test (n ∷ ns) (suc i) x inside is = element_test ns i x (omega arith) is

pub none_past : (ns : List HtmlNode) (i : ℕ) → length ns ≤ i →
    false ≡ is_element_at (nodes_view ns) i
none_past [] i past = refl
none_past (n ∷ ns) zero past = absurd (omega arith)
none_past (n ∷ ns) (suc i) past = none_past ns i (omega arith)
