-- Elements that were removed.
use Rattle.std.proofs.Common.{◌≡◌, ◌+◌, ◌<◌, ◌≤◌, ◌-◌, ℕ, zero, suc, false, arith, inl, inr, List, [], ◌∷◌, ◌++◌, drop, length, map, reverse, take, refl, sym, ap, ◌∙◌}
use Rattle.std.proofs.{Math.Seq.{drop-append_seam}, lemmas.Bool.{cases_Bool}}
use Rattle.std.proofs.lemmas.List.{length-drop, map-append, reverse-append, take-append-drop}
use Rattle.std.specs.Prelude.{if◌then◌else◌}
use Rattle.html_page_stack.proofs.OpenFormats.{as_many}
use Rattle.html_page_stack.specs.{Adoption.{around, shown_count}, ElementViews.{element_of, list_of}}
use Rattle.html_page_stack.specs.OpenElements.{OpenElement, at, is_removed, uncovered, uncovered_times, without_current}
use Rattle.html_page_stack.specs.declared.element.PageElement.{PageElement}

-- completing removed elements goes on, or is done
pub uncovered_once : (n k : ℕ) (os : List OpenElement) → k < n →
    uncovered_times (n - k) os ≡ (if at (λ o. is_removed o.space) os
    then uncovered_times (n - (k + 1)) (without_current os) else os)
uncovered_once n k os h =
    ap (λ m. uncovered_times m os) {x = n - k} {y = suc (n - (k + 1))} (omega (arith, h))

pub uncovered_done : (n k : ℕ) (os : List OpenElement) → n ≤ k → uncovered_times (n - k) os ≡ os
uncovered_done n k os h =
    ap (λ m. uncovered_times m os) {x = n - k} {y = zero} (omega (arith, h))

pub none_removed : (os : List OpenElement) → at (λ o. is_removed o.space) os ≡ false →
    uncovered os ≡ os
none_removed [] h = refl
none_removed (o ∷ os) h = rw h refl

-- no more elements are open than there are
pub fewer_shown : (os : List OpenElement) → shown_count os ≤ length os
fewer_shown [] = omega arith
fewer_shown (o ∷ os) = elim (cases_Bool (is_removed o.space)) [
  | inl e ↦ rw e (omega (arith, fewer_shown os))
  | inr e ↦ rw e (omega arith)
]

-- the first elements are those around the others
pub first_around : (es : List PageElement) (n : ℕ) →
    list_of (take n es) ≡ around n (list_of es)
first_around es n = sym (ap (λ l. around n l) split ∙ past) where
  inner : List OpenElement
  inner = list_of (drop n es)

  split : list_of es ≡ inner ++ list_of (take n es)
  split = ap list_of (sym (take-append-drop n es))
      ∙ (ap reverse (map-append element_of (take n es) (drop n es))
      ∙ reverse-append (map element_of (take n es)) (map element_of (drop n es)))

  within : length (inner ++ list_of (take n es)) - n ≡ length inner
  within = ap (λ l. length l - n) (sym split) ∙ omega (
    arith,
    as_many es,
    as_many (drop n es),
    length-drop n es,
  )

  past : around n (inner ++ list_of (take n es)) ≡ list_of (take n es)
  past = ap (λ k. drop k (inner ++ list_of (take n es))) within
      ∙ drop-append_seam inner (list_of (take n es))

-- no more stay open around an element than stand around it
pub fewer_around : (n : ℕ) (os : List OpenElement) → shown_count (around n os) ≤ n
fewer_around n os = omega (
  arith,
  fewer_shown (around n os),
  length-drop (length os - n) os,
)
