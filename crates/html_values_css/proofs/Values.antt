-- A quantity's text has its value.
use Rattle.std.proofs.Common.{◌≡◌, ℕ, zero, suc, ◌+◌, ◌*◌, ◌<◌, ◌/◌, ◌%◌, ◌^◌, ◌==◌, ℤ, pos, negsuc, neg_ℤ, List, [], ◌∷◌, ◌++◌, length, take, drop, true, false, Some, option_map, refl, ap, ◌∙◌, codes, append_assoc, arith}
use Rattle.std.proofs.{Math.Seq.{take-append_seam, drop-append_seam}, lemmas.Bool.Decides.{nat_tests}, lemmas.Fmt.{decimal_is_IsNumeral}}
use Rattle.std.specs.{Char.{digit_value}, Fmt.{decimal}, List.{prefix_len}, Str.Parse.{AllDigits, digits_value}}
use Rattle.html_values_css.proofs.Digits.{whole_fits, leading_digit, power_above}
use Rattle.html_values_css.specs.Lengths.{Amounts, nothing, negative_amounts, is_digit, digits_of, after_digits, decimals, in_unit, behind, unsigned_value, part_value, round}
use Rattle.html_values_css.specs.Quantities.{IsQuantity, nearest_hundreds, fraction_digits, point_text, sign_text, fixed_text, abs_text, em_text, ratio_text}

-- what no number begins with
abbrev pub Ends : List ℕ → Type 0
Ends [] = Unit {0}
Ends (c ∷ cs) = is_digit c ≡ false

digit_test : (c : ℕ) → digit_value c < 10 → is_digit c ≡ true
digit_test c h = grind (arith, nat_tests)

run_of : (ds rest : List ℕ) → AllDigits 10 ds → Ends rest → prefix_len is_digit (ds ++ rest)
    ≡ length ds
run_of [] [] a e = refl
run_of [] (c ∷ cs) a e = rw e refl
run_of (d ∷ ds) rest a e = rw (digit_test d a.0, run_of ds rest a.1 e) (omega arith)

pub digits_first : (ds rest : List ℕ) → AllDigits 10 ds → Ends rest → digits_of (ds ++ rest) ≡ ds
digits_first ds rest a e = ap (λ n. take n (ds ++ rest)) (run_of ds rest a e)
    ∙ take-append_seam ds rest

pub digits_past : (ds rest : List ℕ) → AllDigits 10 ds → Ends rest → after_digits (ds ++ rest)
    ≡ rest
digits_past ds rest a e = ap (λ n. drop n (ds ++ rest)) (run_of ds rest a e)
    ∙ drop-append_seam ds rest

digit_is : (q : ℕ) → q < 10 → digit_value (48 + q) ≡ q
digit_is q h = grind (arith, nat_tests)

-- the digits of a fraction are digits, and have its value
pub fraction_all : (k n : ℕ) → n < 10 ^ k → AllDigits 10 (fraction_digits k n)
fraction_all zero n h = tt
fraction_all (suc k) zero h = tt
fraction_all (suc k) (suc n) h =
    let digit = leading_digit k (suc n) h in
    let above = power_above k in
    (rw (digit_is (suc n / 10 ^ k) digit) digit, fraction_all k (suc n % 10 ^ k) (omega arith))

hundreds_1 : (n : ℕ) → n < 10 → decimals 100 (fraction_digits 1 n) ≡ n * 100
hundreds_1 zero h = refl
hundreds_1 (suc n) h = rw (digit_is (suc n / 1) (omega arith)) (omega arith)

hundreds_2 : (n : ℕ) → n < 100 → decimals 1000 (fraction_digits 2 n) ≡ n * 100
hundreds_2 zero h = refl
hundreds_2 (suc n) h =
    grind (arith, digit_is (suc n / 10), hundreds_1 (suc n % 10))

hundreds_3 : (n : ℕ) → n < 1000 → decimals 10000 (fraction_digits 3 n) ≡ n * 100
hundreds_3 zero h = refl
hundreds_3 (suc n) h =
    grind (arith, digit_is (suc n / 100), hundreds_2 (suc n % 100))

pub hundreds_4 : (n : ℕ) → n < 10000 → decimals 100000 (fraction_digits 4 n) ≡ n * 100
hundreds_4 zero h = refl
hundreds_4 (suc n) h =
    grind (arith, digit_is (suc n / 1000), hundreds_3 (suc n % 1000))

percents_1 : (n : ℕ) → n < 10 → decimals 10000 (fraction_digits 1 n) ≡ n * 10000
percents_1 zero h = refl
percents_1 (suc n) h = rw (digit_is (suc n / 1) (omega arith)) (omega arith)

pub percents_2 : (n : ℕ) → n < 100 → decimals 100000 (fraction_digits 2 n) ≡ n * 10000
percents_2 zero h = refl
percents_2 (suc n) h =
    grind (arith, digit_is (suc n / 10), percents_1 (suc n % 10))

unsigned_is : (ds rest : List ℕ) → 0 < length ds → AllDigits 10 ds → Ends rest
    → unsigned_value (digits_of (ds ++ rest)) (after_digits (ds ++ rest))
    ≡ behind (digits_value 10 ds * 1000000) rest
unsigned_is [] rest h a e = absurd (omega (arith, h))
unsigned_is (d ∷ ds) rest h a e = rw (digits_first (d ∷ ds) rest a e, digits_past (d ∷ ds) rest a e)
    refl

without_sign : (ds rest : List ℕ) → 0 < length ds → AllDigits 10 ds → part_value (ds ++ rest)
    ≡ unsigned_value (digits_of (ds ++ rest)) (after_digits (ds ++ rest))
without_sign [] rest h a = absurd (omega (arith, h))
without_sign (d ∷ ds) rest h a =
    let no_minus : (d == 45) ≡ false = grind (arith, nat_tests, a.0) in rw no_minus refl

-- a unit: it begins with no digit and no point
abbrev pub IsUnit : List ℕ → Type 0
IsUnit [] = ⊥
IsUnit (c ∷ cs) = (is_digit c ≡ false) × ((c == 46) ≡ false)

ends_unit : (u : List ℕ) → IsUnit u → Ends u
ends_unit [] h = tt
ends_unit (c ∷ cs) h = h.0

ends_point : (k f : ℕ) (u : List ℕ) → IsUnit u → Ends (point_text k f ++ u)
ends_point k zero u h = ends_unit u h
ends_point k (suc f) u h = refl

behind_unit : (n : ℕ) (u : List ℕ) → IsUnit u → behind n u ≡ in_unit u n
behind_unit n [] h = absurd h
behind_unit n (c ∷ cs) h = rw h.1 refl

behind_is : (k f m n : ℕ) (u : List ℕ) → f < 10 ^ k → IsUnit u
    → decimals 100000 (fraction_digits k f) ≡ f * m → behind n (point_text k f ++ u)
    ≡ in_unit u (n + f * m)
behind_is k zero m n u fits is_unit places = behind_unit n u is_unit ∙ ap (in_unit u) (omega arith)
behind_is k (suc f) m n u fits is_unit places =
    let a = fraction_all k (suc f) fits in
    rw (
      digits_first (fraction_digits k (suc f)) u a (ends_unit u is_unit),
      digits_past (fraction_digits k (suc f)) u a (ends_unit u is_unit),
      places,
    ) refl

module _ (k m : ℕ) (u : List ℕ) (amount : ℤ → Amounts) (is_unit : IsUnit u)
    (places : (f : ℕ) → f < 10 ^ k → decimals 100000 (fraction_digits k f) ≡ f * m)
    (reads : (r : ℕ) → in_unit u (r / 10 ^ k * 1000000 + r % 10 ^ k * m)
    ≡ Some (amount (pos (r * 100))))
    (turns : (a : ℤ) → negative_amounts (amount a) ≡ amount (neg_ℤ a)) where
  number : (r : ℕ) → List ℕ
  number r = decimal (r / 10 ^ k) ++ (point_text k (r % 10 ^ k) ++ u)

  number_value : (r : ℕ) → r / 10 ^ k < 2 ^ 64 → unsigned_value (digits_of (number r))
      (after_digits (number r)) ≡ Some (amount (pos (r * 100)))
  unfolding number
  number_value r fits =
      let above = power_above k in
      let whole = decimal_is_IsNumeral (r / 10 ^ k) fits in
      unsigned_is (decimal (r / 10 ^ k)) (point_text k (r % 10 ^ k) ++ u) whole.0.0 whole.0.1
      (ends_point k (r % 10 ^ k) u is_unit)
      ∙ ap (λ n. behind (n * 1000000) (point_text k (r % 10 ^ k) ++ u)) whole.1
      ∙ behind_is k (r % 10 ^ k) m (r / 10 ^ k * 1000000) u (omega arith) is_unit
      (places (r % 10 ^ k) (omega arith))
      ∙ reads r

  plain_value : (r : ℕ) → r / 10 ^ k < 2 ^ 64 → part_value (number r)
      ≡ Some (amount (pos (r * 100)))
  unfolding number
  plain_value r fits =
      let whole = decimal_is_IsNumeral (r / 10 ^ k) fits in
      without_sign (decimal (r / 10 ^ k)) (point_text k (r % 10 ^ k) ++ u) whole.0.0 whole.0.1
      ∙ number_value r fits

  below_zero : (n r : ℕ) → r / 10 ^ k < 2 ^ 64 → part_value
      (sign_text (negsuc n) r ++ decimal (r / 10 ^ k) ++ point_text k (r % 10 ^ k) ++ u)
      ≡ Some (amount (neg_ℤ (pos (r * 100))))
  unfolding number
  below_zero n zero fits = ap part_value (append_assoc (decimal (0 / 10 ^ k))
      (point_text k (0 % 10 ^ k)) u) ∙ plain_value 0 fits
  below_zero n (suc r) fits =
      ap (λ t. option_map negative_amounts (unsigned_value (digits_of t) (after_digits t)))
      (append_assoc (decimal (suc r / 10 ^ k)) (point_text k (suc r % 10 ^ k)) u)
      ∙ ap (option_map negative_amounts) (number_value (suc r) fits) ∙ ap Some (turns (pos (suc r * 100)))

  pub quantity_value : (z : ℤ) → IsQuantity z → part_value (fixed_text k z ++ u)
      ≡ Some (amount (round z))
  unfolding number
  quantity_value (pos n) q = ap part_value (append_assoc (decimal (nearest_hundreds (pos n) / 10 ^ k))
      (point_text k (nearest_hundreds (pos n) % 10 ^ k)) u)
      ∙ plain_value (nearest_hundreds (pos n)) (whole_fits k (pos n) q)
  quantity_value (negsuc n) q = below_zero n (nearest_hundreds (negsuc n)) (whole_fits k (negsuc n) q)

abbrev pub of_abs : ℤ → Amounts
of_abs a = record nothing { abs = a }

abbrev pub of_em : ℤ → Amounts
of_em a = record nothing { em = a }

abbrev pub of_ratio : ℤ → Amounts
of_ratio a = record nothing { ratio = a }

pub abs_value : (z : ℤ) → IsQuantity z → part_value (abs_text z) ≡ Some (of_abs (round z))
abs_value = quantity_value 4 100 (codes "pt") of_abs (refl, refl) hundreds_4
    (λ r. ap (λ n. Some (of_abs (pos n))) (omega arith)) (λ a. refl)

pub em_value : (z : ℤ) → IsQuantity z → part_value (em_text z) ≡ Some (of_em (round z))
em_value = quantity_value 4 100 (codes "em") of_em (refl, refl) hundreds_4
    (λ r. ap (λ n. Some (of_em (pos n))) (omega arith)) (λ a. refl)

pub ratio_value : (z : ℤ) → IsQuantity z → part_value (ratio_text z) ≡ Some (of_ratio (round z))
ratio_value = quantity_value 2 10000 (codes "%") of_ratio (refl, refl) percents_2
    (λ r. ap (λ n. Some (of_ratio (pos n))) (omega arith)) (λ a. refl)
