-- The digits of a fraction.
use Rattle.std.proofs.Common.{◌≡◌, ℕ, zero, suc, ◌<◌, ◌≤◌, ◌^◌, ◌/◌, ◌%◌, ◌-◌, ◌+◌, ◌*◌, List, [], ◌∷◌, ◌++◌, sub-one, append_assoc, append-nil, arith}
use Rattle.std.proofs.Math.Nat.{one-le-pow, div-lt_iff_lt-mul, div-le_self}
use native.Mathlib.Numerals.{unary_clauses}
use Rattle.std.proofs.{Common.{ℤ, pos, negsuc, chars}, lemmas.Fmt.{IsAscii-decimal}, lemmas.Str.{chars-IsAscii, IsAscii-append}}
use Rattle.std.{proofs.lemmas.Str.Ascii.{IsAscii-nil, IsAscii-cons}, specs.Str.{IsAscii}}
use Rattle.html_values_css.specs.Quantities.{IsQuantity, nearest_hundreds, fraction_digits, point_text, sign_text, fixed_text}

pub power_bound : (k : ℕ) → k < 5 → 10 ^ k < 2 ^ 64
power_bound zero h = omega arith
power_bound (suc zero) h = omega arith
power_bound (suc (suc zero)) h = omega arith
power_bound (suc (suc (suc zero))) h = omega arith
power_bound (suc (suc (suc (suc zero)))) h = omega arith
power_bound (suc (suc (suc (suc (suc k))))) h = absurd (omega arith)

pub power_above : (k : ℕ) → 0 < 10 ^ k
power_above k = omega (arith, one-le-pow k 10 (omega arith))

pred_is : (k : ℕ) → suc k - 1 ≡ k
pred_is k = omega arith

pub fraction_digits-step : (k n : ℕ) → 0 < k → 0 < n → fraction_digits k n
    ≡ (48 + n / 10 ^ (k - 1)) ∷ fraction_digits (k - 1) (n % 10 ^ (k - 1))
fraction_digits-step zero n h p = absurd (omega arith)
fraction_digits-step (suc k) zero h p = absurd (omega arith)
fraction_digits-step (suc k) (suc n) h p = rw (pred_is k)

-- the first digit of a fraction of one more decimal is one digit
pub leading_digit : (k n : ℕ) → n < 10 ^ suc k → n / 10 ^ k < 10
leading_digit k n p =
    let tenfold : 10 ^ suc k ≡ 10 * 10 ^ k = simp unary_clauses (omega arith) in
    (div-lt_iff_lt-mul {k = 10 ^ k} {x = n} {y = 10} (power_above k)).1 (rw tenfold at p)

pub first_digit : (k n : ℕ) → 0 < k → n < 10 ^ k → n / 10 ^ (k - 1) < 10
first_digit zero n h p = absurd (omega arith)
first_digit (suc k) n h p = rw (pred_is k) (leading_digit k n p)

pub ruleset append_steps = (append_assoc, append-nil)

fraction_ascii : (k n : ℕ) → n < 10 ^ k → IsAscii (fraction_digits k n)
fraction_ascii zero n p = IsAscii-nil
fraction_ascii (suc k) zero p = IsAscii-nil
fraction_ascii (suc k) (suc n) p =
    let digit = leading_digit k (suc n) p in
    let above = power_above k in
    IsAscii-cons (48 + suc n / 10 ^ k) _ (omega arith)
    (fraction_ascii k (suc n % 10 ^ k) (omega arith))

point_ascii : (k n : ℕ) → n < 10 ^ k → IsAscii (point_text k n)
point_ascii k zero p = IsAscii-nil
point_ascii k (suc n) p = IsAscii-cons 46 _ (omega arith) (fraction_ascii k (suc n) p)

sign_ascii : (z : ℤ) (n : ℕ) → IsAscii (sign_text z n)
sign_ascii (pos m) n = IsAscii-nil
sign_ascii (negsuc m) zero = IsAscii-nil
sign_ascii (negsuc m) (suc n) = IsAscii-cons 45 [] (omega arith) IsAscii-nil

pub whole_fits : (k : ℕ) (z : ℤ) → IsQuantity z → nearest_hundreds z / 10 ^ k < 2 ^ 64
whole_fits k z q = let above = power_above k in omega (arith, div-le_self (nearest_hundreds z) (10 ^ k), q)

pub fixed_chars : (k : ℕ) (z : ℤ) → IsQuantity z → chars (fixed_text k z) ≡ fixed_text k z
fixed_chars k z q =
    let above = power_above k in
    chars-IsAscii (fixed_text k z)
    (IsAscii-append _ _
    (IsAscii-append _ _ (sign_ascii z (nearest_hundreds z))
    (IsAscii-decimal (nearest_hundreds z / 10 ^ k) (whole_fits k z q)))
    (point_ascii k (nearest_hundreds z % 10 ^ k) (omega arith)))
