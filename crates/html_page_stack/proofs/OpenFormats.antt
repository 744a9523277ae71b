-- The list of active formatting elements: the entry's element is open where the open element at its
-- index is one of it.
use Rattle.std.proofs.Common.{◌≡◌, ◌+◌, ◌<◌, ◌≤◌, arith, ℕ, zero, suc, Bool, true, false, ◌||◌, List, [], ◌∷◌, ◌++◌, append_assoc, drop, get_or, length, map, take, inl, inr, refl, sym, ap, ◌∙◌}
use Rattle.std.proofs.Math.Bool.{and-false}
use Rattle.std.proofs.lemmas.{Bool.{cases_Bool, eq-eqb, false≢true, ltb-false, ltb-true, ne_eqb}, List.{drop-map, length-append, length-map, length-reverse, map-append, reverse-append, take-map}}
use Rattle.std.specs.{List.{remove}, Prelude.{nat_lt, Option, option_map}}
use Rattle.html_page_names.specs.PageNames.{of}
use Rattle.html_page_names.specs.declared.kind.Kind.TheVariants as kind
use Rattle.html_page_stack.specs.FormatViews.{entries_of, format_of}
use Rattle.html_page_stack.specs.declared.formats.{Format.Format as Entry}
use Rattle.html_page_stack.specs.{ElementViews.{element_of, list_of}, Formats.{Format, Formats, after_current, is_open}, OpenElements.{OpenElement, is_of, is_opened}}
use Rattle.html_page_stack.specs.declared.element.PageElement.{PageElement}

-- the end tag of another element removes no entry
pub left_by_others : (os : List OpenElement) (fs : Formats) → after_current false os fs ≡ fs
left_by_others [] fs = refl
left_by_others (o ∷ os) fs = rw (
  and-false (is_of (of kind.Marker) o),
  and-false (is_of (of kind.Formatting) o),
) refl

pub as_many : (es : List PageElement) → length (list_of es) ≡ length es
as_many es = length-reverse (map element_of es) ∙ length-map es element_of

-- the entries without that at an index
pub entries_left : (fs : List (Option Entry)) (i : ℕ) →
    entries_of (remove fs i) ≡ remove (entries_of fs) i
entries_left fs i =
    map-append (option_map format_of) (take i fs) (drop (suc i) fs)
    ∙ (ap (λ l. l ++ entries_of (drop (suc i) fs)) (sym (take-map (option_map format_of) i fs))
    ∙ ap (λ l. take i (entries_of fs) ++ l) (sym (drop-map (option_map format_of) (suc i) fs)))

module _ (f : Format) where
  -- no element is, among so few
  none_open : (os : List OpenElement) → length os ≤ f.index → is_open f os ≡ false
  none_open [] h = refl
  none_open (o ∷ os) h =
      rw (ne_eqb f.index (length os) (λ e. omega (arith, h, e)), none_open os (omega (arith, h))) refl

  -- that element is, whatever is open within it
  open_below : (ys os : List OpenElement) → f.index < length os →
      is_open f (ys ++ os) ≡ is_open f os
  open_below [] os h = refl
  open_below (y ∷ ys) os h =
      rw (
        ne_eqb f.index (length (ys ++ os)) (λ e. omega (arith, h, e, length-append ys os)),
        open_below ys os h,
      ) refl

  open_first : (o : OpenElement) (os : List OpenElement) → f.index ≡ length os →
      is_open f (o ∷ os) ≡ is_opened f.name f.span o
  open_first o os h = rw (eq-eqb f.index (length os) h, none_open os (omega (arith, h)))
      (by_false (is_opened f.name f.span o)) where
        by_false : (b : Bool) → (b || false) ≡ b
        by_false true = refl
        by_false false = refl

  opened_at : (x : PageElement) (es : List PageElement) (os : List OpenElement) →
      is_open f (list_of (x ∷ es) ++ os) ≡ is_open f (list_of es ++ element_of x ∷ os)
  opened_at x es os = ap (is_open f)
      (ap (λ l. l ++ os) (reverse-append (element_of x ∷ []) (map element_of es))
      ∙ append_assoc (list_of es) (element_of x ∷ []) os)

  open_within : (es : List PageElement) (os : List OpenElement) (i : ℕ) (e : PageElement) →
      i < length es → e ≡ get_or es i e → f.index ≡ i + length os →
      is_open f (list_of es ++ os) ≡ is_opened f.name f.span (element_of e)
  open_within [] os i e some is at_index = absurd (omega (arith, some))
  open_within (x ∷ es) os zero e some is at_index = opened_at x es os
      ∙ (open_below (list_of es) (element_of x ∷ os) (omega (arith, at_index))
      ∙ (open_first (element_of x) os (omega (arith, at_index))
      ∙ ap (λ y. is_opened f.name f.span (element_of y)) (sym is)))
  open_within (x ∷ es) os (suc i) e some is at_index = opened_at x es os
      ∙ open_within es (element_of x ∷ os) i e (omega (arith, some)) is (omega (arith, at_index))

  pub open_past : (es : List PageElement) → length es ≤ f.index → is_open f (list_of es) ≡ false
  open_past es h = none_open (list_of es) (omega (arith, h, as_many es))

  pub open_here : (es : List PageElement) (e : PageElement) → f.index < length es →
      e ≡ get_or es f.index e → is_open f (list_of es) ≡ is_opened f.name f.span (element_of e)
  open_here es e some is = ap (is_open f) (sym (no_more (list_of es)))
      ∙ open_within es [] f.index e some is (omega arith) where
        no_more : (os : List OpenElement) → os ++ [] ≡ os
        no_more [] = refl
        no_more (o ∷ os) = ap (λ l. o ∷ l) (no_more os)

  -- only an element that is there is open
  pub opened_within : (os : List OpenElement) → is_open f os ≡ true → f.index < length os
  opened_within os h = elim (cases_Bool (nat_lt f.index (length os))) [
    | inl e ↦ ltb-true f.index (length os) e
    | inr e ↦ absurd (false≢true
        (sym (none_open os (ltb-false f.index (length os) e)) ∙ h))
  ]
