-- Texts are equal where their characters are, and candidates where their texts and widths are.
use Rattle.std.proofs.{Common.{◌≡◌, ◌==◌, ◌&&◌, ℕ, Bool}, lemmas.Bool.Decides.{Decides-eqb}}
use Rattle.std.specs.{Bool.{Decides}, Option.{option_eq}, String.{string_eq}, Int.NonZero.{non_zero_u64_get}}
use Rattle.html_values.specs.{AttrTexts.{image_candidate_view}, declared.image.ImageCandidate.{ImageCandidate}}
use Rattle.html_values_css.proofs.Equals.{options_decide, pairs_decide, text_decides}

-- where a number decides a width
abbrev by_number : {A : Type 0} → (A → ℕ) → A → A → Bool
by_number number x y = number x == number y

module _ (a b : ImageCandidate) where
  abbrev pub same_candidates : Bool
  same_candidates = string_eq a.src b.src && option_eq (by_number non_zero_u64_get) a.width b.width

  pub candidate_decides : Decides same_candidates (image_candidate_view a ≡ image_candidate_view b)
  candidate_decides =
      pairs_decide _ _ (text_decides a.src b.src)
      (options_decide (by_number non_zero_u64_get) non_zero_u64_get
      (λ x y. Decides-eqb (non_zero_u64_get x) (non_zero_u64_get y)) a.width b.width)
