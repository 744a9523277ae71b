-- Whole millionths, and their css texts (CSS Values 4, section 5 and 6: a number with its unit).
use Rattle.std.specs.Fmt.{decimal}
use Rattle.std.specs.Prelude.{ℕ, zero, suc, ◌+◌, ◌/◌, ◌%◌, ◌^◌, ◌≤◌, ℤ, unsigned_abs, pos, negsuc, List, [], ◌∷◌, ◌++◌, codes, Bool, true, false}

-- a number of millionths whose absolute value is at most 10^15
abbrev pub IsQuantity : ℤ → Type 0
IsQuantity z = unsigned_abs z ≤ 10 ^ 15

abbrev pub is_zero : ℤ → Bool
is_zero (pos zero) = true
is_zero (pos (suc n)) = false
is_zero (negsuc n) = false

abbrev pub is_negative : ℤ → Bool
is_negative (pos n) = false
is_negative (negsuc n) = true

-- hundreds of millionths, rounded half away from zero
abbrev pub nearest_hundreds : ℤ → ℕ
nearest_hundreds z = (unsigned_abs z + 50) / 100

-- the digits of n parts of 10^k, without trailing zeros
abbrev pub fraction_digits : ℕ → ℕ → List ℕ
fraction_digits zero n = []
fraction_digits (suc k) zero = []
fraction_digits (suc k) (suc n) = (48 + suc n / 10 ^ k) ∷ fraction_digits k (suc n % 10 ^ k)

-- the sign of a rounded number; a rounded zero has none
abbrev pub sign_text : ℤ → ℕ → List ℕ
sign_text (pos n) hundreds = []
sign_text (negsuc n) zero = []
sign_text (negsuc n) (suc hundreds) = codes "-"

abbrev pub point_text : ℕ → ℕ → List ℕ
point_text k zero = []
point_text k (suc n) = codes "." ++ fraction_digits k (suc n)

-- the text of a number of millionths: its rounded hundreds, with the last k digits behind the point
abbrev pub fixed_text : ℕ → ℤ → List ℕ
fixed_text k z = sign_text z (nearest_hundreds z) ++ decimal (nearest_hundreds z / 10 ^ k)
    ++ point_text k (nearest_hundreds z % 10 ^ k)

-- the texts of millionths of a point, of an em, and of one
abbrev pub abs_text : ℤ → List ℕ
abs_text z = fixed_text 4 z ++ codes "pt"

abbrev pub em_text : ℤ → List ℕ
em_text z = fixed_text 4 z ++ codes "em"

-- a percent is 10^4 millionths of one
abbrev pub ratio_text : ℤ → List ℕ
ratio_text z = fixed_text 2 z ++ codes "%"
