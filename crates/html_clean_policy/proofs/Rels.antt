-- The `rel` of a link that is given once more.
use Rattle.std.proofs.Common.{◌≡◌, ◌≤◌, ◌⊎◌, inl, inr, ℕ, Bool, true, false, not, cond, ◌||◌, List, [], ◌∷◌, ◌++◌, Option, Some, None, ap, arith, bytes_eq, length, refl, subst, sym, ◌∙◌, take}
use Rattle.std.proofs.lemmas.List.{append-nil, take_all}
use Rattle.std.specs.{List.{AllByRecursion, cons_option, filter_map}, Prelude.{codes}}
use Rattle.html_names_core.specs.{Names.{stands_in}, Texts.{TextPair}}
use Rattle.html_names_core.proofs.Basics.{bytes_eq-same}
use Rattle.html_clean_policy.proofs.Pairs.{Stays, all_filtered, length_filtered, mapped_stay, mapped_with_last, take_with_last}
use Rattle.html_clean_policy.specs.LinkRels.{is_rel, is_target, leads, with_rel, without_rel}

abbrev rel_pair : List ℕ → TextPair
rel_pair rel = (codes "rel", rel)

pub rel_is : is_rel (codes "rel") ≡ true
unfolding is_rel stands_in
rel_is = refl

no_target : is_target (codes "rel") ≡ false
unfolding is_target stands_in
no_target = refl

rel_only : (name : List ℕ) → is_rel name ≡ true → codes "rel" ≡ name
unfolding is_rel stands_in
rel_only name is = by (bytes_eq (codes "rel") name) refl is
  where
    by : (b : Bool) → bytes_eq (codes "rel") name ≡ b → (b || false) ≡ true → codes "rel" ≡ name
    by true e on = bytes_eq-same (codes "rel") name e
    by false e on = cc

rel_no_target : (name : List ℕ) → is_rel name ≡ true → is_target name ≡ false
rel_no_target name is = subst (λ n. is_target n ≡ false) (rel_only name is) no_target

pub without_again : (pairs : List TextPair) → without_rel (without_rel pairs) ≡ without_rel pairs
without_again [] = refl
without_again (x ∷ xs) = by (is_rel x.0) refl (without_again xs)
  where
    by : (b : Bool) → is_rel x.0 ≡ b → without_rel (without_rel xs) ≡ without_rel xs →
        without_rel (cond (not b) (x ∷ without_rel xs) (without_rel xs))
        ≡ cond (not b) (x ∷ without_rel xs) (without_rel xs)
    by true e later = later
    by false e later =
        ap (λ b. cond (not b) (x ∷ without_rel (without_rel xs)) (without_rel (without_rel xs))) e
        ∙ ap (λ ys. x ∷ ys) later

without_last : (pairs : List TextPair) (rel : List ℕ) →
    without_rel (pairs ++ rel_pair rel ∷ []) ≡ without_rel pairs
without_last [] rel = ap (λ b. cond (not b) (rel_pair rel ∷ []) []) rel_is
without_last (x ∷ xs) rel =
    ap (λ ys. cond (not (is_rel x.0)) (x ∷ ys) ys) (without_last xs rel)

leads_without : (pairs : List TextPair) → leads (without_rel pairs) ≡ leads pairs
leads_without [] = refl
leads_without (x ∷ xs) = by (is_rel x.0) refl (leads_without xs)
  where
    by : (b : Bool) → is_rel x.0 ≡ b → leads (without_rel xs) ≡ leads xs →
        leads (cond (not b) (x ∷ without_rel xs) (without_rel xs)) ≡ (is_target x.0 || leads xs)
    by true e later = later ∙ ap (λ t. t || leads xs) (sym (rel_no_target x.0 e))
    by false e later = ap (λ t. is_target x.0 || t) later

leads_with_last : (pairs : List TextPair) (y : TextPair) → leads pairs ≡ true →
    leads (pairs ++ y ∷ []) ≡ true
leads_with_last [] y leads_on = cc
leads_with_last (x ∷ xs) y leads_on = by (is_target x.0) leads_on (leads_with_last xs y)
  where
    by : (b : Bool) → (b || leads xs) ≡ true →
        (leads xs ≡ true → leads (xs ++ y ∷ []) ≡ true) → (b || leads (xs ++ y ∷ [])) ≡ true
    by true on later = refl
    by false on later = later on

-- pairs with a target that have the `rel`, or lost it as one too many, get it
given_to : (rel : List ℕ) (pairs : List TextPair) → leads pairs ≡ true →
    with_rel rel pairs ≡ without_rel pairs ++ rel_pair rel ∷ []
given_to rel pairs on =
    ap (λ b. cond b (without_rel pairs ++ rel_pair rel ∷ []) pairs) on

module _ (f : TextPair → Option TextPair) (rel : List ℕ)
    (rel_stays : (f (rel_pair rel) ≡ None) ⊎ (f (rel_pair rel) ≡ Some (rel_pair rel)))
    (most : ℕ) (pairs : List TextPair) (all : AllByRecursion (Stays f) pairs)
    (within : length pairs ≤ most) (on : leads pairs ≡ true) where
  abbrev rest : List TextPair
  rest = without_rel pairs

  rest_on : leads rest ≡ true
  rest_on = leads_without pairs ∙ on

  rest_within : length rest ≤ most
  rest_within = omega (arith, within, length_filtered (λ pair. not (is_rel pair.0)) pairs)

  again_bare : with_rel rel rest ≡ rest ++ rel_pair rel ∷ []
  again_bare = given_to rel rest rest_on ∙ ap (λ xs. xs ++ rel_pair rel ∷ []) (without_again pairs)

  again_full : with_rel rel (rest ++ rel_pair rel ∷ []) ≡ rest ++ rel_pair rel ∷ []
  again_full =
      given_to rel (rest ++ rel_pair rel ∷ []) (leads_with_last rest (rel_pair rel) rest_on)
      ∙ ap (λ xs. xs ++ rel_pair rel ∷ []) (without_last rest rel ∙ without_again pairs)

  again_taken : with_rel rel (take most (rest ++ rel_pair rel ∷ [])) ≡ rest ++ rel_pair rel ∷ []
  again_taken = elim (take_with_last most rest (rel_pair rel) rest_within) [
    | inl e ↦ ap (with_rel rel) e ∙ again_bare
    | inr e ↦ ap (with_rel rel) e ∙ again_full
  ]

  again_mapped : (o : Option TextPair) → (o ≡ None) ⊎ (o ≡ Some (rel_pair rel)) →
      with_rel rel (take most (rest ++ cons_option o [])) ≡ rest ++ rel_pair rel ∷ []
  again_mapped o (inl e) =
      ap (λ q. with_rel rel (take most (rest ++ cons_option q []))) e
      ∙ (ap (λ xs. with_rel rel (take most xs)) (append-nil rest)
      ∙ (ap (with_rel rel) (take_all most rest rest_within) ∙ again_bare))
  again_mapped o (inr e) =
      ap (λ q. with_rel rel (take most (rest ++ cons_option q []))) e ∙ again_taken

  again_leading : with_rel rel (take most (filter_map f (rest ++ rel_pair rel ∷ [])))
      ≡ rest ++ rel_pair rel ∷ []
  again_leading =
      ap (λ xs. with_rel rel (take most xs))
      (mapped_with_last f rest (rel_pair rel) (all_filtered (Stays f) _ pairs all))
      ∙ again_mapped (f (rel_pair rel)) rel_stays

pub rel_again : (f : TextPair → Option TextPair) (rel : List ℕ) →
    (f (codes "rel", rel) ≡ None) ⊎ (f (codes "rel", rel) ≡ Some (codes "rel", rel)) →
    (most : ℕ) (pairs : List TextPair) → AllByRecursion (Stays f) pairs → length pairs ≤ most →
    with_rel rel (take most (filter_map f (with_rel rel pairs))) ≡ with_rel rel pairs
rel_again f rel rel_stays most pairs all within = by (leads pairs) refl
  where
    by : (b : Bool) → leads pairs ≡ b →
        with_rel rel
        (take most (filter_map f (cond b (without_rel pairs ++ rel_pair rel ∷ []) pairs)))
        ≡ cond b (without_rel pairs ++ rel_pair rel ∷ []) pairs
    by true on = again_leading f rel rel_stays most pairs all within on
    by false off =
        ap (λ xs. with_rel rel (take most xs)) (mapped_stay f pairs all)
        ∙ (ap (with_rel rel) (take_all most pairs within)
        ∙ ap (λ b. cond b (without_rel pairs ++ rel_pair rel ∷ []) pairs) off)
