-- The first element of a document's own, from a place on; where it stands.
use Rattle.std.proofs.Common.{◌≡◌, ℕ, zero, suc, ◌+◌, ◌<◌, ◌≤◌, ◌==◌, List, length, get_or, drop, Option, Some, None, true, refl, sym, ap, subst, ◌∙◌, inl, inr, arith}
use Rattle.std.proofs.lemmas.{Bool.{cases_Bool}, List.{at_drop_all}, Bool.Decides.{Decides-eqb}}
use Rattle.std.specs.Prelude.{option_map}
use Rattle.html_dom_tree.specs.Tree.{Head, NodeView, element_node, NodesView, none, node}
use Rattle.html_dom_tree.specs.{Views.{node_view, nodes_view}, declared.node.HtmlNode.{HtmlNode}}
use Rattle.html_dom_document.specs.{Documents.{is_element_at}, Places.{is_named_html}}
use Rattle.typst_html_export.specs.Assembled.{Outline, own_html, own_body, own_among_others, own_head, is_own, own_after, first_own, shown_count, outline_by, document_outline}
use Rattle.html_names_core.proofs.Basics.{from_place}

after_after : (k : ℕ) (found : Option (ℕ × Head))
    → option_map (own_after k) (option_map (own_after 1) found) ≡ option_map (own_after (k + 1)) found
after_after k None = refl
after_after k (Some own) = ap (λ p. Some (p, own.1)) (omega arith)

-- what is found from a place on
abbrev found_from : List HtmlNode → ℕ → Option (ℕ × Head)
found_from nodes k = option_map (own_after k) (first_own (nodes_view (drop k nodes)))

module _ (nodes : List HtmlNode) (k : ℕ) (n : HtmlNode) (below : k < length nodes)
    (is : n ≡ get_or nodes k n) where
  -- a node that is none is passed
  pub passed : own_head (node_view n) ≡ None → found_from nodes k ≡ first_own (nodes_view nodes) →
      found_from nodes (k + 1) ≡ first_own (nodes_view nodes)
  unfolding first_own
  passed other same =
      let rest = nodes_view (drop (k + 1) nodes) in
      let here : first_own (node (node_view n) rest) ≡ option_map (own_after 1) (first_own rest) =
      rw other refl in
      sym (after_after k (first_own rest)) ∙ (ap (option_map (own_after k)) (sym here)
      ∙ (ap (λ ns. option_map (own_after k) (first_own (nodes_view ns)))
      (sym (from_place nodes k n below is)) ∙ same))

  -- the first other one is found
  pub found : (h : Head) → Some h ≡ own_head (node_view n) →
      found_from nodes k ≡ first_own (nodes_view nodes) → Some (k, h) ≡ first_own (nodes_view nodes)
  unfolding first_own
  found h own same =
      let rest = nodes_view (drop (k + 1) nodes) in
      let here : first_own (node (node_view n) rest) ≡ Some (0, h) = rw (sym own) refl in
      ap (λ place. Some (place, h)) (omega arith)
      ∙ (sym (ap (λ ns. option_map (own_after k) (first_own (nodes_view ns)))
      (from_place nodes k n below is)
      ∙ ap (option_map (own_after k)) here) ∙ same)

-- none is left at the end
pub none_left : (nodes : List HtmlNode) (k : ℕ) → length nodes ≤ k →
    found_from nodes k ≡ first_own (nodes_view nodes) → first_own (nodes_view nodes) ≡ None
unfolding first_own
none_left nodes k past same = sym same
    ∙ at_drop_all (λ ns. option_map (own_after k) (first_own (nodes_view ns))) nodes k past

abbrev place_of : Option (ℕ × Head) → ℕ
place_of None = 0
place_of (Some own) = own.0

stands_after : (ns : NodesView) (rest : Option (ℕ × Head)) →
    ((p : ℕ) (h : Head) → rest ≡ Some (p, h) → is_element_at ns p ≡ true) → (n : NodeView) (p : ℕ)
    (h : Head) → option_map (own_after 1) rest ≡ Some (p, h) → is_element_at (node n ns) p ≡ true
stands_after ns None stands n p h e = cc
stands_after ns (Some own) stands n zero h e = absurd (omega (arith, ap place_of e))
stands_after ns (Some own) stands n (suc p) h e =
    stands p own.1 (ap (λ place. Some (place, own.1)) (omega (arith, ap place_of e)))

first_here : (g : Head) (kids ns : NodesView) (found : Option (ℕ × Head)) → is_own g ≡ true
    → first_own (node (element_node g kids) ns) ≡ found → Some (0, g) ≡ found
unfolding first_own
first_here g kids ns found own e = rw own at e

pub found_stands : (ns : NodesView) (p : ℕ) (h : Head) → first_own ns ≡ Some (p, h)
    → is_element_at ns p ≡ true
unfolding first_own
found_stands none p h e = cc
found_stands (node (element_node g kids) ns) p h e = elim (cases_Bool (is_own g)) [
  | inl own ↦ subst (λ place. is_element_at (node (element_node g kids) ns) place ≡ true)
      (ap place_of (first_here g kids ns _ own e)) refl
  | inr other ↦ stands_after ns (first_own ns) (found_stands ns) (element_node g kids) p h
      (rw other at e)
]
found_stands (node n ns) p h e = stands_after ns (first_own ns) (found_stands ns) n p h e

abbrev html_place : Outline → ℕ
html_place (own_html place) = place
html_place o = 0

pub own_found : (shown : ℕ) (found : Option (ℕ × Head)) (place : ℕ) →
    own_html place ≡ outline_by shown found → (h : Head) × ((found ≡ Some (place, h)) × (shown ≡ 1))
own_found shown None place e = cc
own_found shown (Some own) place e = elim (cases_Bool (shown == 1)) [
  | inl one ↦ elim (cases_Bool (is_named_html own.1)) [
    | inl html ↦ let same : own_html place ≡ own_html own.0 = rw (one, html) at e in (
      own.1,
      (
        ap (λ p. Some (p, own.1)) (sym (ap html_place same)),
        (Decides-eqb shown 1).0 one,
      ),
    )
    | inr body ↦ let other : own_html place ≡ own_body = rw (one, body) at e in cc
  ]
  | inr many ↦ let other : own_html place ≡ own_among_others own.1.name own.1.span =
      rw many at e in cc
]

pub own_stands : (ns : NodesView) (place : ℕ) → own_html place ≡ document_outline ns
    → is_element_at ns place ≡ true
own_stands ns place e =
    let found = own_found (shown_count ns) (first_own ns) place e in
    found_stands ns place found.0 found.1.0
