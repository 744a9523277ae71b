-- Equality of values by their views, as a test.
use Rattle.std.specs.Prelude.{◌≡◌, ℕ, List, Option, Some, None, Bool, true, false, refl}
use native.Mathlib.Decide.{ℕ_discrete}
use mathlib.Core.List.{List-discrete}
use mathlib.Core.HLevel.{×_discrete}
use Rattle.std.{proofs.Common.{sym, ◌∙◌, ap, true≢false}, specs.Bool.{Decides, one_answer}, specs.Cmp.{IsEquivalence}}
use Rattle.html_names_core.specs.Texts.{TextPair}

abbrev is_yes : {P : Type 0} → Dec P → Bool
is_yes (yes p) = true
is_yes (no n) = false

-- whether two values have equal views
unfoldable pub same : {A B : Type 0} → (B → A) → Discrete A → B → B → Bool
same v d x y = is_yes (d (v x) (v y))

decided : {P : Type 0} (d : Dec P) → Decides (is_yes d) P
decided (yes p) = (λ _. p, λ _. refl)
decided (no n) = (λ e. absurd (true≢false (sym e)), λ p. absurd (n p))

pub same_decides : {A B : Type 0} (v : B → A) (d : Discrete A) (x y : B) →
    Decides (same v d x y) (v x ≡ v y)
unfolding same
same_decides v d x y = decided (d (v x) (v y))

pub same_equiv : {A B : Type 0} (v : B → A) (d : Discrete A) → IsEquivalence (same v d)
same_equiv v d = record {
  refl = λ x. (same_decides v d x x).1 refl;
  symm = λ x y. one_answer (same v d x y) (same v d y x) (same_decides v d x y)
      (λ e. sym ((same_decides v d y x).0 e), λ e. (same_decides v d y x).1 (sym e));
  congr = λ x y z e. let p = (same_decides v d x y).0 e in
      one_answer (same v d x z) (same v d y z) (same_decides v d x z)
      (λ q. p ∙ (same_decides v d y z).0 q, λ q. (same_decides v d y z).1 (sym p ∙ q));
}

-- equality is decidable if values come back from an encoding whose equality is decidable
pub discrete_by : {A B : Type 0} (f : A → B) (g : B → A) → ((a : A) → g (f a) ≡ a) → Discrete B →
    Discrete A
discrete_by f g back d x y = elim (d (f x) (f y)) [
  | yes p ↦ yes (sym (back x) ∙ ap g p ∙ back y)
  | no n ↦ no (λ e. n (ap f e))
]

pub option_discrete : {A : Type 0} → Discrete A → Discrete (Option A)
option_discrete d None None = yes refl
option_discrete d None (Some y) = no (λ e. cc)
option_discrete d (Some x) None = no (λ e. cc)
option_discrete d (Some x) (Some y) =
    elim (d x y) [ yes p ↦ yes (ap Some p) | no n ↦ no (λ e. n cc) ]

pub text_discrete : Discrete (List ℕ)
text_discrete = List-discrete ℕ_discrete

pub pairs_discrete : Discrete (List TextPair)
pairs_discrete = List-discrete (×_discrete text_discrete text_discrete)
