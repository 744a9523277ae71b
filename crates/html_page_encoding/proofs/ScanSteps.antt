-- The scan for a label, piece by piece.
use Rattle.std.proofs.Common.{◌≡◌, ℕ, zero, suc, ◌+◌, ◌-◌, ◌<◌, ◌≤◌, List, ap, arith, refl, ◌∙◌, None, Some}
use Rattle.html_page_encoding.specs.Attributes.{Part}
use Rattle.html_page_encoding.specs.Prescan.{Cut, Declared, Passed, Piece, next_piece, scanned_on, scanned_within}

pub within_next : (n : ℕ) (bs : List ℕ) →
    scanned_within (suc n) bs ≡ scanned_on (scanned_within n) (next_piece bs)
unfolding scanned_within
within_next n bs = refl

module _ (n k : ℕ) (bs : List ℕ) (some : k < n) where
  step : (p : Piece) → next_piece bs ≡ p →
      scanned_within (n - k) bs ≡ scanned_on (scanned_within (n - (k + 1))) p
  step p is =
      let more : n - k ≡ suc (n - (k + 1)) = omega arith in
      ap (λ j. scanned_within j bs) more ∙ (within_next (n - (k + 1)) bs
      ∙ ap (scanned_on (scanned_within (n - (k + 1)))) is)

  pub cut_step : next_piece bs ≡ Cut → scanned_within (n - k) bs ≡ None
  cut_step = step Cut

  pub passed_step : (rest : List ℕ) → next_piece bs ≡ Passed rest →
      scanned_within (n - k) bs ≡ scanned_within (n - (k + 1)) rest
  passed_step rest = step (Passed rest)

  pub declared_step : (p : Part) → next_piece bs ≡ Declared p →
      scanned_within (n - k) bs ≡ Some p
  declared_step p = step (Declared p)

pub no_step : (n k : ℕ) (bs : List ℕ) → n ≤ k → scanned_within (n - k) bs ≡ None
unfolding scanned_within
no_step n k bs none = let no : n - k ≡ zero = omega arith in ap (λ j. scanned_within j bs) no
