-- Bytes of a class at the front.
use Rattle.std.proofs.Common.{◌≡◌, ℕ, ◌+◌, ◌<◌, ◌≤◌, true, false, List, ◌∷◌, add-one, ap, arith, drop, get_or, length, sym, take, ◌∙◌}
use Rattle.std.proofs.lemmas.{List.{length-take}, List.Folds.{length-prefix_len}, List.Sums.{prefix_len_is}}
use Rattle.std.specs.List.{prefix_len}
use Rattle.html_page_encoding.specs.{Classes.{behind, front, has}, declared.class.Class.{Class}}

module _ (of : Class) (bs : List ℕ) (n : ℕ) (fits : n ≤ length bs)
    (are : (k : ℕ) → k < n → has of (get_or bs k 0) ≡ true)
    (stops : n < length bs → has of (get_or bs n 0) ≡ false) where
  pub front_is : take n bs ≡ front of bs
  unfolding front
  front_is = ap (λ k. take k bs) (sym (prefix_len_is (has of) bs n 0 fits are stops))

  pub behind_is : drop n bs ≡ behind of bs
  unfolding behind
  behind_is = ap (λ k. drop k bs) (sym (prefix_len_is (has of) bs n 0 fits are stops))

pub front_taken : (of : Class) (bs : List ℕ) → take (length (front of bs)) bs ≡ front of bs
unfolding front
front_taken of bs = ap (λ n. take n bs) (length-prefix_len (has of) bs)

pub front_short : (of : Class) (bs : List ℕ) → length (front of bs) ≤ length bs
unfolding front
front_short of bs = omega (arith, length-take (prefix_len (has of) bs) bs)

-- a byte, and those of a class behind it
pub first_and_front : (of : Class) (bs later fs : List ℕ) (b : ℕ) → bs ≡ b ∷ later →
    fs ≡ front of later →
    (length fs + 1 ≤ length bs) × (take (length fs + 1) bs ≡ b ∷ front of later)
first_and_front of bs later fs b e f =
    let short = front_short of later in (
      omega (arith, ap length e, ap length f, short),
      ap (take (length fs + 1)) e ∙ (ap (λ l. take (length l + 1) (b ∷ later)) f
          ∙ (rw add-one (ap (λ l. b ∷ l) (front_taken of later)))),
    )
