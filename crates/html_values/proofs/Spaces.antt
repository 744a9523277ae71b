-- Counts that are added one by one.
use Rattle.std.proofs.Common.{◌≡◌, ℕ, zero, suc, ◌<◌, ◌^◌, List, [], ◌∷◌, ◌++◌, length, refl, ap, ◌∙◌, sym, append_assoc, arith}
use Rattle.std.{proofs.lemmas.Fmt.{decimal_nonempty}, proofs.lemmas.List.{length-append}, specs.Fmt.{decimal}}
use Rattle.html_values.specs.AttrTexts.{gap_after, texts_with_gap, count_text}

spaced-first : (ys : List ℕ) → texts_with_gap [] ys ≡ ys
spaced-first [] = refl
spaced-first (y ∷ ys) = refl

spaced-assoc : (xs ys zs : List ℕ) → texts_with_gap (texts_with_gap xs ys) zs ≡ texts_with_gap xs (texts_with_gap ys zs)
spaced-assoc xs ys [] = refl
spaced-assoc xs [] (z ∷ zs) = refl
spaced-assoc [] (y ∷ ys) (z ∷ zs) = refl
spaced-assoc (x ∷ xs) (y ∷ ys) (z ∷ zs) =
    let gap = xs ++ 32 ∷ [] in
    ap (λ l. x ∷ l)
    (ap (λ l. l ++ z ∷ zs) (append_assoc gap (y ∷ ys) (32 ∷ []))
    ∙ append_assoc gap (y ∷ ys ++ 32 ∷ []) (z ∷ zs))

-- from the left and from the right
module _ (a b c d e : List ℕ) where
  five : texts_with_gap (texts_with_gap (texts_with_gap (texts_with_gap (texts_with_gap [] a) b) c) d) e
      ≡ texts_with_gap a (texts_with_gap b (texts_with_gap c (texts_with_gap d e)))
  five =
      ap (λ l. texts_with_gap (texts_with_gap (texts_with_gap (texts_with_gap l b) c) d) e) (spaced-first a)
      ∙ spaced-assoc (texts_with_gap (texts_with_gap a b) c) d e
      ∙ spaced-assoc (texts_with_gap a b) c (texts_with_gap d e)
      ∙ spaced-assoc a b (texts_with_gap c (texts_with_gap d e))

  pub step_by_step : (t u v w x y : List ℕ) → t ≡ [] → u ≡ texts_with_gap t a → v ≡ texts_with_gap u b
      → w ≡ texts_with_gap v c → x ≡ texts_with_gap w d → y ≡ texts_with_gap x e
      → y ≡ texts_with_gap a (texts_with_gap b (texts_with_gap c (texts_with_gap d e)))
  step_by_step t u v w x y none first second third fourth fifth = cc five

-- a count above zero is a text that is not empty
pub spaced-nonempty : (xs ys : List ℕ) → 0 < length ys → texts_with_gap xs ys ≡ gap_after xs ++ ys
spaced-nonempty xs [] h = absurd (omega arith)
spaced-nonempty xs (y ∷ ys) h = refl

count_is : (n : ℕ) (unit : List ℕ) → 0 < n → n < 2 ^ 64
    → (0 < length (count_text n unit)) × (count_text n unit ≡ decimal n ++ unit)
count_is zero unit h f = absurd (omega arith)
count_is (suc n) unit h f =
    let above = decimal_nonempty (suc n) f in
    (omega (arith, above, length-append (decimal (suc n)) unit), refl)

pub spaced-count : (xs unit : List ℕ) (n : ℕ) → 0 < n → n < 2 ^ 64
    → (gap_after xs ++ decimal n) ++ unit ≡ texts_with_gap xs (count_text n unit)
spaced-count xs unit n h f =
    let count = count_is n unit h f in
    append_assoc (gap_after xs) (decimal n) unit
    ∙ ap (λ l. gap_after xs ++ l) (sym count.1)
    ∙ sym (spaced-nonempty xs (count_text n unit) count.0)
