-- The open elements, of which the innermost changes.
use Rattle.std.proofs.Common.{◌≡◌, ℕ, ◌+◌, ◌-◌, ◌<◌, List, [], ◌∷◌, ◌++◌, length, get_or, map, take, reverse, ap, sym, ◌∙◌, arith}
use Rattle.std.proofs.{Math.ListN.{set}, lemmas.List.{length-set, map-append, reverse-append, take_all, take_more_set}}
use Rattle.html_dom_tree.proofs.Reversed.{last_apart}
use Rattle.typst_html_encode.specs.Reader.{Open}
use Rattle.typst_html_read.specs.{OpenViews.{open_of, list_of}, declared.open.OpenElement.{OpenElement}}

listed : (os : List OpenElement) (o : OpenElement) → list_of (os ++ o ∷ []) ≡ open_of o ∷ list_of os
listed os o = ap reverse (map-append open_of os (o ∷ []))
    ∙ reverse-append (map open_of os) (open_of o ∷ [])

-- elements, how many they are, and the last of them
module _ (os : List OpenElement) (n : ℕ) (counted : n ≡ length os) (some : 0 < length os)
    (o : OpenElement) (is : o ≡ get_or os (n - 1) o) where
  abbrev front : List OpenElement
  front = take (n - 1) os

  changed : (p : OpenElement) → set os (n - 1) p ≡ front ++ p ∷ []
  changed p =
      sym (take_all (n - 1 + 1) (set os (n - 1) p) (omega (arith, length-set os (n - 1) p)))
      ∙ take_more_set os (n - 1) p (omega arith)

  pub top_is : list_of os ≡ open_of o ∷ list_of front
  top_is = ap list_of (last_apart os n o counted some is) ∙ listed front o

  pub top_changed : (change : List Open → List Open) (made : Open → Open) →
      ((p : Open) (ps : List Open) → change (p ∷ ps) ≡ made p ∷ ps) → (p : OpenElement) →
      open_of p ≡ made (open_of o) → list_of (set os (n - 1) p) ≡ change (list_of os)
  top_changed change made h p e =
      ap list_of (changed p) ∙ (listed front p ∙ (ap (λ q. q ∷ list_of front) e
      ∙ (sym (h (open_of o) (list_of front)) ∙ ap change (sym top_is))))
