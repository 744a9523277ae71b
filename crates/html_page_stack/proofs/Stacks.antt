-- The elements that are open, with the last of them first.
use Rattle.std.proofs.{Common.{◌≡◌, ℕ, suc, Bool, true, false, inl, inr, List, [], ◌∷◌, ◌++◌, ◌≢◌, length, map, reverse, refl, sym, ap, ◌∙◌}, lemmas.Bool.{cases_Bool}, lemmas.List.{map-append, reverse-append}}
use Rattle.std.specs.Prelude.{if◌then◌else◌}
use Rattle.html_page_names.specs.PageNames.{of}
use Rattle.html_page_names.specs.declared.kind.Kind.TheVariants as kind
use Rattle.html_page_stack.specs.{ElementViews.{element_of, list_of}, OpenElements.{OpenElement, before_table, is_before_table, is_of, placed, with_last_text, with_text, without_current}, Pages.{Page, settled}}
use Rattle.html_page_stack.specs.declared.element.PageElement.{PageElement}

pub last_first : (es : List PageElement) (e : PageElement) →
    list_of (es ++ e ∷ []) ≡ element_of e ∷ list_of es
last_first es e = ap reverse (map-append element_of es (e ∷ []))
    ∙ reverse-append (map element_of es) (element_of e ∷ [])

none_added : (os : List OpenElement) → with_last_text [] os ≡ os
none_added [] = refl
none_added (o ∷ os) = refl

-- where the current node is completed before the nearest table
pub moved_out : (o : OpenElement) (os : List OpenElement) → is_before_table o ≡ true →
    length os ≢ 0 → without_current (o ∷ os) ≡ before_table (placed o) os
moved_out o [] h some = absurd (some refl)
moved_out o (p ∷ ps) h some = rw h refl

none_before : (os : List OpenElement) → before_table (with_text []) os ≡ os
none_before [] = refl
none_before (o ∷ []) = refl
none_before (o ∷ p ∷ ps) = elim (cases_Bool (is_of (of kind.Table) o)) [
  | inl e ↦ rw e refl
  | inr e ↦ rw e (elim (cases_Bool (is_of (of kind.Template) p)) [
    | inl f ↦ rw f refl
    | inr f ↦ rw f (ap (λ os. o ∷ os) (none_before (p ∷ ps)))
  ])
]

none_moved : (moved : Bool) (os : List OpenElement) →
    (if moved then before_table (with_text []) os else with_last_text [] os) ≡ os
none_moved true os = none_before os
none_moved false os = none_added os

-- no text is no child
pub settled_none : (p : Page) → p.text ≡ [] → settled p ≡ record p { moved = false }
settled_none p h = ap (λ t. record p {
  text = [];
  moved = false;
  stack = if p.moved then before_table (with_text t) p.stack else with_last_text t p.stack;
}) h
    ∙ (ap (λ os. record p { text = []; moved = false; stack = os }) (none_moved p.moved p.stack)
    ∙ ap (λ t. record p { text = t; moved = false }) (sym h))

-- a text leaves as many elements open

before_length : (add : OpenElement → OpenElement) (os : List OpenElement) →
    length (before_table add os) ≡ length os
before_length add [] = refl
before_length add (o ∷ []) = refl
before_length add (o ∷ p ∷ ps) = elim (cases_Bool (is_of (of kind.Table) o)) [
  | inl e ↦ rw e refl
  | inr e ↦ rw e (elim (cases_Bool (is_of (of kind.Template) p)) [
    | inl f ↦ rw f refl
    | inr f ↦ rw f (ap suc (before_length add (p ∷ ps)))
  ])
]

text_length : (text : List ℕ) (os : List OpenElement) →
    length (with_last_text text os) ≡ length os
text_length text [] = refl
text_length text (o ∷ os) = refl

pub settled_length : (p : Page) → length (settled p).stack ≡ length p.stack
settled_length p = by_moved p.moved where
  by_moved : (moved : Bool) → length (if moved then before_table (with_text p.text) p.stack
      else with_last_text p.text p.stack) ≡ length p.stack
  by_moved true = before_length (with_text p.text) p.stack
  by_moved false = text_length p.text p.stack
