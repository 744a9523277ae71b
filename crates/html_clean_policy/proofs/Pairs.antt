-- What holds of each of the pairs that stay.
use Rattle.std.proofs.Common.{◌≡◌, ◌≤◌, ◌⊎◌, inl, inr, ℕ, zero, suc, Bool, true, false, cond, ◌&&◌, List, [], ◌∷◌, ◌++◌, Option, Some, None, ap, arith, length, refl, ◌∙◌, take}
use Rattle.std.proofs.lemmas.Bool.{and_parts}
use Rattle.std.specs.List.{AllByRecursion, cons_option, filter, filter_map, list_all}

pub all_are : {A : Type 0} {P : A → Type 0} → ((x : A) → P x) → (xs : List A) → AllByRecursion P xs
all_are each [] = tt
all_are each (x ∷ xs) = (each x, all_are each xs)

module _ {A B : Type 0} (f : A → Option B) (R : A → Type 0) (P : B → Type 0)
    (each : (x : A) (y : B) → R x → f x ≡ Some y → P y) where
  pub all_mapped : (xs : List A) → AllByRecursion R xs → AllByRecursion P (filter_map f xs)
  all_mapped [] all = tt
  all_mapped (x ∷ xs) all = by (f x) refl (all_mapped xs all.1)
    where
      by : (o : Option B) → f x ≡ o → AllByRecursion P (filter_map f xs) →
          AllByRecursion P (cons_option o (filter_map f xs))
      by None e later = later
      by (Some y) e later = (each x y all.0 e, later)

module _ {A : Type 0} (P : A → Type 0) where
  pub all_taken : (n : ℕ) (xs : List A) → AllByRecursion P xs → AllByRecursion P (take n xs)
  all_taken zero xs all = tt
  all_taken (suc n) [] all = tt
  all_taken (suc n) (x ∷ xs) all = (all.0, all_taken n xs all.1)

  pub all_filtered : (test : A → Bool) (xs : List A) → AllByRecursion P xs →
      AllByRecursion P (filter test xs)
  all_filtered test [] all = tt
  all_filtered test (x ∷ xs) all = by (test x) (all_filtered test xs all.1)
    where
      by : (b : Bool) → AllByRecursion P (filter test xs) →
          AllByRecursion P (cond b (x ∷ filter test xs) (filter test xs))
      by true later = (all.0, later)
      by false later = later

  pub all_with_last : (xs : List A) (y : A) → AllByRecursion P xs → P y →
      AllByRecursion P (xs ++ y ∷ [])
  all_with_last [] y all last = (last, tt)
  all_with_last (x ∷ xs) y all last = (all.0, all_with_last xs y all.1 last)

pub all_tested : {A : Type 0} (test : A → Bool) (xs : List A) →
    AllByRecursion (λ x. test x ≡ true) xs → list_all test xs ≡ true
all_tested test [] all = refl
all_tested test (x ∷ xs) all =
    ap (λ b. b && list_all test xs) all.0 ∙ all_tested test xs all.1

pub each_tested : {A : Type 0} (test : A → Bool) (xs : List A) → list_all test xs ≡ true →
    AllByRecursion (λ x. test x ≡ true) xs
each_tested test [] all = tt
each_tested test (x ∷ xs) all =
    let both = and_parts (test x) (list_all test xs) all in
    (both.0, each_tested test xs both.1)

pub length_filtered : {A : Type 0} (test : A → Bool) (xs : List A) →
    length (filter test xs) ≤ length xs
length_filtered test [] = omega arith
length_filtered {A} test (x ∷ xs) = by (test x) (length_filtered test xs)
  where
    by : (b : Bool) → length (filter test xs) ≤ length xs →
        length (cond b (x ∷ filter test xs) (filter test xs)) ≤ length (x ∷ xs)
    by true later = omega (arith, later)
    by false later = omega (arith, later)

-- pairs that stay as they are
module _ {A : Type 0} (f : A → Option A) where
  abbrev pub Stays : A → Type 0
  Stays x = f x ≡ Some x

  pub mapped_stay : (xs : List A) → AllByRecursion Stays xs → filter_map f xs ≡ xs
  mapped_stay [] all = refl
  mapped_stay (x ∷ xs) all =
      ap (λ o. cons_option o (filter_map f xs)) all.0 ∙ ap (λ ys. x ∷ ys) (mapped_stay xs all.1)

  pub mapped_with_last : (xs : List A) (y : A) → AllByRecursion Stays xs →
      filter_map f (xs ++ y ∷ []) ≡ xs ++ cons_option (f y) []
  mapped_with_last [] y all = refl
  mapped_with_last (x ∷ xs) y all =
      ap (λ o. cons_option o (filter_map f (xs ++ y ∷ []))) all.0
      ∙ ap (λ ys. x ∷ ys) (mapped_with_last xs y all.1)

pub take_with_last : {A : Type 0} (n : ℕ) (xs : List A) (y : A) → length xs ≤ n →
    (take n (xs ++ y ∷ []) ≡ xs) ⊎ (take n (xs ++ y ∷ []) ≡ xs ++ y ∷ [])
take_with_last zero [] y within = inl refl
take_with_last (suc n) [] y within = inr (by n)
  where
    by : (m : ℕ) → take (suc m) (y ∷ []) ≡ y ∷ []
    by zero = refl
    by (suc m) = refl
take_with_last zero (x ∷ xs) y within = absurd (omega (arith, within))
take_with_last (suc n) (x ∷ xs) y within =
    elim (take_with_last n xs y (omega (arith, within))) [
      | inl e ↦ inl (ap (λ ys. x ∷ ys) e)
      | inr e ↦ inr (ap (λ ys. x ∷ ys) e)
    ]
