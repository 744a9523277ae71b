-- What is moved before a table, step by step outwards.
use Rattle.std.proofs.Common.{◌≡◌, ◌<◌, ◌≤◌, arith, true, false, List, [], ◌∷◌, drop, length, refl}
use Rattle.std.proofs.lemmas.Bool.{false≢true}
use Rattle.html_page_names.specs.PageNames.{of}
use Rattle.html_page_names.specs.declared.kind.Kind.TheVariants as kind
use Rattle.html_page_stack.specs.OpenElements.{OpenElement, at, before_table, behind_current, in_current, is_of}

module _ (add : OpenElement → OpenElement) where
  -- right in a `template`
  pub in_template : (os : List OpenElement) → at (is_of (of kind.Table)) os ≡ false →
      at (is_of (of kind.Template)) (drop 1 os) ≡ true →
      before_table add os ≡ behind_current add os
  in_template [] h t = refl
  in_template (o ∷ []) h t = absurd (false≢true t)
  in_template (o ∷ p ∷ ps) h t = rw (h, t) refl

  -- at a table
  pub at_table : (o : OpenElement) (os : List OpenElement) → is_of (of kind.Table) o ≡ true →
      1 < length (o ∷ os) → before_table add (o ∷ os) ≡ o ∷ in_current add os
  at_table o [] h some = absurd (omega (arith, some))
  at_table o (p ∷ ps) h some = rw h refl

  -- elsewhere
  pub past_other : (o : OpenElement) (os : List OpenElement) → is_of (of kind.Table) o ≡ false →
      at (is_of (of kind.Template)) os ≡ false → 1 < length (o ∷ os) →
      before_table add (o ∷ os) ≡ o ∷ before_table add os
  past_other o [] h t some = absurd (omega (arith, some))
  past_other o (p ∷ ps) h t some = rw (h, t) refl

  -- in the root
  pub at_root : (os : List OpenElement) → length os ≤ 1 →
      before_table add os ≡ in_current add os
  at_root [] h = refl
  at_root (o ∷ []) h = refl
  at_root (o ∷ p ∷ ps) h = absurd (omega (arith, h))
