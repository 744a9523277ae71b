-- The value of a length's css text (CSS Values 4: dimensions, percentages and `calc()`), in whole
-- millionths.
use Rattle.std.specs.{Char.{digit_value}, List.{take_while, prefix_len}}
use Rattle.std.specs.Prelude.{◌≡◌, ℕ, suc, ◌≤◌, ◌<◌, ◌+◌, ◌*◌, ◌/◌, nat_lt, ◌==◌, ℤ, pos, negsuc, neg_ℤ, ◌+ℤ◌, List, [], ◌∷◌, codes, take, drop, bytes_eq, Bool, if◌then◌else◌, Option, Some, None, option_map}
use Rattle.std.specs.Str.Parse.{digits_value}
use Rattle.html_names_core.specs.Names.{listed_names}
use Rattle.html_values_css.specs.{Quantities.{IsQuantity}, Sums.{length_text, rel_text}}

-- amounts by unit: millionths of one, of an em, of a point
pub record Amounts : Type 0 where
  pub ratio : ℤ
  pub em : ℤ
  pub abs : ℤ

abbrev pub nothing : Amounts
nothing = record { ratio = pos 0; em = pos 0; abs = pos 0 }

abbrev pub negative_amounts : Amounts → Amounts
negative_amounts a = record { ratio = neg_ℤ a.ratio; em = neg_ℤ a.em; abs = neg_ℤ a.abs }

abbrev pub amounts_sum : Amounts → Amounts → Amounts
amounts_sum a b = record { ratio = a.ratio +ℤ b.ratio; em = a.em +ℤ b.em; abs = a.abs +ℤ b.abs }

abbrev pub both : Option Amounts → Option Amounts → Option Amounts
both (Some a) (Some b) = Some (amounts_sum a b)
both (Some a) None = None
both None b = None

abbrev pub is_digit : ℕ → Bool
is_digit c = nat_lt (digit_value c) 10

-- the leading digits of a text, and the text behind them
abbrev pub digits_of : List ℕ → List ℕ
digits_of text = take_while is_digit text

abbrev pub after_digits : List ℕ → List ℕ
after_digits text = drop (prefix_len is_digit text) text

-- the value of the digits behind the point, each worth a tenth of the one before
abbrev pub decimals : ℕ → List ℕ → ℕ
decimals worth [] = 0
decimals worth (d ∷ ds) = digit_value d * worth + decimals (worth / 10) ds

-- n millionths of a unit
abbrev pub in_unit : List ℕ → ℕ → Option Amounts
in_unit unit n =
    if bytes_eq unit (codes "em") then Some (record nothing { em = pos n })
    else (if bytes_eq unit (codes "pt") then Some (record nothing { abs = pos n })
    else (if bytes_eq unit (codes "%") then Some (record nothing { ratio = pos (n / 100) })
    else None))

-- the value of n millionths in whole units, and of the text behind their digits
abbrev pub behind : ℕ → List ℕ → Option Amounts
behind n [] = None
behind n (c ∷ cs) = if c == 46 then in_unit (after_digits cs) (n + decimals 100000 (digits_of cs))
    else in_unit (c ∷ cs) n

abbrev pub unsigned_value : List ℕ → List ℕ → Option Amounts
unsigned_value [] rest = None
unsigned_value (d ∷ ds) rest = behind (digits_value 10 (d ∷ ds) * 1000000) rest

-- the value of a part: an optional minus, a decimal number, and a unit
abbrev pub part_value : List ℕ → Option Amounts
part_value [] = None
part_value (c ∷ cs) =
    if c == 45 then option_map negative_amounts (unsigned_value (digits_of cs) (after_digits cs))
    else unsigned_value (digits_of (c ∷ cs)) (after_digits (c ∷ cs))

-- the value of the words of a sum: a part, then signs and parts
abbrev pub value_with_sign : List ℕ → Option Amounts → Option Amounts
value_with_sign sign value = if bytes_eq sign (codes "+") then value
    else (if bytes_eq sign (codes "-") then option_map negative_amounts value else None)

abbrev pub terms : List (List ℕ) → Option Amounts
terms [] = Some nothing
terms (sign ∷ []) = None
terms (sign ∷ part ∷ words) = both (value_with_sign sign (part_value part)) (terms words)

abbrev pub sum_value : List (List ℕ) → Option Amounts
sum_value [] = None
sum_value (part ∷ words) = both (part_value part) (terms words)

-- a text without its trailing `)`
abbrev pub before_close : List ℕ → Option (List ℕ)
before_close [] = None
before_close (c ∷ []) = if c == 41 then Some [] else None
before_close (c ∷ d ∷ cs) = option_map (λ body. c ∷ body) (before_close (d ∷ cs))

-- the content of `calc(..)`
abbrev pub calc_body : List ℕ → Option (List ℕ)
calc_body text = if bytes_eq (take 5 text) (codes "calc(") then before_close (drop 5 text) else None

abbrev pub of_body : List ℕ → Option (List ℕ) → Option Amounts
of_body text (Some body) = sum_value (listed_names body)
of_body text None = part_value text

-- the value of a text: `0` is zero, a part has its own value, and `calc(..)` is the signed sum of
-- its parts, which spaces separate
abbrev pub css_value : List ℕ → Option Amounts
css_value text = if bytes_eq text (codes "0") then Some nothing else of_body text (calc_body text)

-- the nearest multiple of 100, halves away from zero
abbrev pub nearest_hundred : ℕ → ℕ
nearest_hundred n = (n + 50) / 100 * 100

abbrev pub round : ℤ → ℤ
round (pos n) = pos (nearest_hundred n)
round (negsuc n) = neg_ℤ (pos (nearest_hundred (suc n)))

-- the value of a length's text is the sum of its parts, each rounded to the decimals that it is
-- written with
abbrev pub LengthValue : Type 0
LengthValue = (em abs : ℤ) → IsQuantity em → IsQuantity abs → css_value (length_text em abs)
    ≡ Some (record { ratio = pos 0; em = round em; abs = round abs })

abbrev pub RelValue : Type 0
RelValue = (ratio em abs : ℤ) → IsQuantity ratio → IsQuantity em → IsQuantity abs
    → css_value (rel_text ratio em abs) ≡ Some (record
    { ratio = round ratio; em = round em; abs = round abs })

-- no multiple of 100 is nearer, and a half goes up
abbrev pub Nearest : Type 0
Nearest = (n : ℕ) → (nearest_hundred n ≤ n + 50) × (n < nearest_hundred n + 50)
