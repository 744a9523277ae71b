-- Runs of the reader, and small facts on lists.
use Rattle.std.proofs.Common.{◌≡◌, ℕ, Bool, true, false, List, [], ◌∷◌, ◌++◌, sym, refl, ap, ◌∙◌, append_assoc}
use Rattle.std.{proofs.lemmas.Bool.{and_parts, and_from}, proofs.lemmas.List.{append-nil}, specs.Prelude.{if◌then◌else◌}}
use Rattle.html_names_core.specs.Characters.{all, IsOf}
use Rattle.typst_html_encode.specs.Reader.{ReaderState, run, step}

pub run-append : (s : ReaderState) (xs ys : List ℕ) → run s (xs ++ ys) ≡ run (run s xs) ys
run-append s [] ys = refl
run-append s (x ∷ xs) ys = run-append (step s x) xs ys

pub read_on : {t u : ReaderState} (s : ReaderState) (xs ys : List ℕ) → run s xs ≡ t →
    run t ys ≡ u → run s (xs ++ ys) ≡ u
read_on s xs ys h k = run-append s xs ys ∙ (ap (λ r. run r ys) h ∙ k)

-- a state that holds what it has read so far
module _ (f : List ℕ → ReaderState) where
  pub grows : (ok : ℕ → Bool) → ((xs : List ℕ) (c : ℕ) → ok c ≡ true →
      step (f xs) c ≡ f (xs ++ c ∷ [])) → (xs cs : List ℕ) → all ok cs ≡ true →
      run (f xs) cs ≡ f (xs ++ cs)
  grows ok one xs [] h = ap f (sym (append-nil xs))
  grows ok one xs (c ∷ cs) h =
      let both = and_parts (ok c) (all ok cs) h in
      ap (λ s. run s cs) (one xs c both.0) ∙ (grows ok one (xs ++ c ∷ []) cs both.1
      ∙ ap f (append_assoc xs (c ∷ []) cs))

pub all_of : (p : ℕ → Bool) (xs : List ℕ) → IsOf p xs → all p xs ≡ true
all_of p [] h = absurd h
all_of p (c ∷ cs) h = and_from (p c) (all p cs) h.0 h.1

pub left_empty : {A : Type 0} (xs ys : List A) → xs ++ ys ≡ [] → xs ≡ []
left_empty [] ys h = refl
left_empty (x ∷ xs) ys h = cc

pub right_empty : {A : Type 0} (xs ys : List A) → xs ++ ys ≡ [] → ys ≡ []
right_empty [] ys h = h
right_empty (x ∷ xs) ys h = cc

pub test_fails : {A : Type 0} (b : Bool) (x : A) → (if b then x ∷ [] else []) ≡ [] → b ≡ false
test_fails true x h = cc
test_fails false x h = refl

pub four_joined : {A : Type 0} (a b c d : List A) → ((a ++ b) ++ c) ++ d ≡ a ++ (b ++ (c ++ d))
four_joined a b c d = append_assoc (a ++ b) c d ∙ append_assoc a b (c ++ d)
