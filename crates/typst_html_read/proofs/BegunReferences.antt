-- What begins no reference is read as none, whatever follows.
use Rattle.std.proofs.Common.{◌≡◌, ℕ, zero, suc, ◌+◌, ◌*◌, ◌/◌, ◌%◌, ◌^◌, ◌<◌, ◌≤◌, true, false, not, ◌&&◌, inl, inr, eqb, List, [], ◌∷◌, ◌++◌, None, bytes_eq, chars, codes, get_or, length, refl, sym, ap, ◌∙◌, arith, nat_lt, eq-eqb, ltb-true}
use Rattle.std.proofs.Math.Nat.{div-lt_iff_lt-mul, pow-suc, pow-zero}
use Rattle.std.proofs.lemmas.Bool.{and_from, and_parts, agree_below_at, false≢true, false_from_ne_true, lt-ltb, or_parts}
use Rattle.std.proofs.lemmas.{Fmt.{digits_is_IsNumeral}, Bool.Decides.{Decides-eqb, nat_tests}, List.Folds.{list_all-append}}
use Rattle.std.proofs.lemmas.Slice.Eq.{bytes_eq-Decides, starts_is}
use Rattle.std.specs.{Char.{digit_value}, Fmt.{digit_glyph, digits_onto, digits}, List.{list_all}, Str.{IsUtf8}}
use Rattle.std.specs.Str.Parse.{AllDigits, IsNumeral, digits_value, digits_value_after, without_leading_plus}
use lib.Utf8.{encodes, scalar, scalar_cases}
use Rattle.html_names_core.proofs.Digits.{digits_ascii}
use Rattle.typst_html_encode.specs.References.{numbered_char, reference_by_number, reference}
use Rattle.typst_html_read.proofs.Numbers.{no_plus}
use Rattle.typst_html_read.specs.BegunReferences.{is_small_digit, begins_digits, begins_number, begins_reference}
use Rattle.html_text.{proofs.Words.{chars_after_word, own_bytes, word_before}, specs.Words.{begins}}

-- the digits that are written of a number are small ones, and a zero is not the first, but of 0

glyph_small : (d : ℕ) → d < 16 → is_small_digit (digit_glyph false d) ≡ true
glyph_small d h = agree_below_at (λ e. is_small_digit (digit_glyph false e)) (λ e. true) 16 d refl h

glyph_some : (d : ℕ) → d < 16 → 0 < d → eqb (digit_glyph false d) 48 ≡ false
glyph_some d h p = grind (
  arith,
  nat_tests,
  agree_below_at (λ e. eqb (digit_glyph false e) 48) (λ e. eqb e 0) 16 d refl h,
)

onto_small : (k n : ℕ) (acc : List ℕ) → list_all is_small_digit acc ≡ true →
    list_all is_small_digit (digits_onto k 16 false n acc) ≡ true
onto_small zero n acc h = h
onto_small (suc k) n acc h =
    let rest = onto_small k (n / 16) (digit_glyph false (n % 16) ∷ acc) in
    grind (arith, glyph_small (n % 16) (omega arith), rest)

onto_some : (k n : ℕ) (acc : List ℕ) → 0 < n → n < 16 ^ k →
    eqb (get_or (digits_onto k 16 false n acc) 0 0) 48 ≡ false
onto_some zero n acc p h = absurd (omega (arith, pow-zero 16, h, p))
onto_some (suc k) n acc p h =
    let sixteen : 0 < 16 = omega arith in
    let small : n / 16 < 16 ^ k = (div-lt_iff_lt-mul sixteen).1 (omega (arith, pow-suc 16 k, h)) in
    let rest = onto_some k (n / 16) (digit_glyph false (n % 16) ∷ acc) in
    grind (arith, nat_tests, glyph_some (n % 16) (omega arith), rest)

digits_small : (n : ℕ) → list_all is_small_digit (digits 16 false n) ≡ true
unfolding digits
digits_small n = onto_small 64 n [] refl

digits_some : (n : ℕ) → 0 < n → n < 0x11_0000 → eqb (get_or (digits 16 false n) 0 0) 48 ≡ false
unfolding digits
digits_some n p h = onto_some 64 n [] p (omega arith)

-- what the digits in front write is no more

value_grows : (ds : List ℕ) (n : ℕ) → n ≤ digits_value_after 16 n ds
value_grows [] n = omega arith
value_grows (c ∷ cs) n = omega (arith, value_grows cs (n * 16 + digit_value c))

value_front : (ds more : List ℕ) (n : ℕ) →
    digits_value_after 16 n ds ≤ digits_value_after 16 n (ds ++ more)
value_front [] more n = value_grows more n
value_front (c ∷ cs) more n = value_front cs more (n * 16 + digit_value c)

front_some : (ds more : List ℕ) → eqb (get_or (ds ++ more) 0 0) 48 ≡ false →
    eqb (get_or ds 0 0) 48 ≡ false
front_some [] more h = refl
front_some (c ∷ cs) more h = h

digits_begun : (ds more : List ℕ) (v : ℕ) → ds ++ more ≡ digits 16 false v → 0 < v →
    v < 0x11_0000 → begins_digits ds ≡ true
unfolding begins_digits
digits_begun ds more v e p h =
    let all_small : (list_all is_small_digit ds && list_all is_small_digit more) ≡ true =
    sym (list_all-append is_small_digit ds more) ∙ rw e (digits_small v) in
    let some = front_some ds more (rw e (digits_some v p h)) in
    let value : digits_value 16 (ds ++ more) ≡ v =
    rw e (digits_is_IsNumeral 16 false (omega arith) (omega arith) v (omega arith)).1 in
    let low : digits_value 16 ds < 0x11_0000 = omega (arith, value_front ds more 0, value, h) in
    and_from _ _ (and_parts _ _ all_small).0 (and_from _ _ (ap not some) (lt-ltb _ _ low))

char_low : (v : ℕ) → scalar v ≡ true → v < 0x11_0000
char_low v s = elim (scalar_cases v s) [ inl h ↦ omega arith | inr h ↦ omega (arith, h.1) ]

numbered_never : (ds more : List ℕ) → begins_digits ds ≡ false → numbered_char (ds ++ more) ≡ None
numbered_never ds more h =
    let v = digits_value 16 (ds ++ more) in
    let same = (bytes_eq-Decides (ds ++ more) (digits 16 false v)).0 in
    grind (arith, nat_tests, same, digits_begun ds more v, char_low v)

-- a word that a text begins, begins with the text's beginnings
pub front_begins : (word front rest : List ℕ) → word ≡ front ++ rest → begins word front ≡ true
front_begins word front rest e = (starts_is Decides-eqb word front (begins word front) refl).1 rest e

number_never : (w more : List ℕ) → begins (codes "#x") w ≡ false → begins_number w ≡ false →
    reference_by_number (w ++ more) ≡ None
number_never [] more h k = grind (arith, front_begins (codes "#x") [] (codes "#x"))
number_never (x ∷ []) [] h k = refl
number_never (x ∷ []) (y ∷ ds) h k = grind (arith, nat_tests)
number_never (x ∷ y ∷ ds) more h k = grind (arith, numbered_never ds more)

name_never : (name w more : List ℕ) → begins name w ≡ false → bytes_eq (w ++ more) name ≡ false
name_never name w more h =
    grind (arith, front_begins name w more, (bytes_eq-Decides (w ++ more) name).0)

pub reference_never : (w : List ℕ) → begins_reference w ≡ false → (more : List ℕ) →
    reference (w ++ more) ≡ None
unfolding begins_reference
reference_never w h more =
    let amp = or_parts _ _ h in
    let lt = or_parts _ _ amp.1 in
    let gt = or_parts _ _ lt.1 in
    let quot = or_parts _ _ gt.1 in
    let apos = or_parts _ _ quot.1 in
    let number = or_parts _ _ apos.1 in
    let never = λ (name : List ℕ) (h : begins name w ≡ false). name_never name w more h in
    rw (never _ amp.0, never _ lt.0, never _ gt.0, never _ quot.0, never _ apos.0)
    (number_never w more number.0 number.1)

-- the digits of a text, by its bytes

all_digits : (cs : List ℕ) → list_all is_small_digit cs ≡ true → AllDigits 16 cs
all_digits [] h = tt
all_digits (c ∷ cs) h = grind (arith, nat_tests, all_digits cs)

module _ (ds : List ℕ) (u : IsUtf8 ds) (h : list_all is_small_digit (chars ds) ≡ true) where
  own : ds ≡ chars ds
  own = own_bytes ds u (digits_ascii (chars ds) (all_digits (chars ds) h))

  pub digits_read : without_leading_plus ds ≡ chars ds
  digits_read = ap without_leading_plus own ∙ no_plus (chars ds) (all_digits (chars ds) h)

  pub digits_high : eqb (length ds) 0 ≡ false →
      (IsNumeral 16 (without_leading_plus ds) × (digits_value 16 (without_leading_plus ds) < 2 ^ 32) → ⊥) →
      nat_lt (digits_value 16 (chars ds)) 0x11_0000 ≡ false
  digits_high some wrong =
      let not_none : length ds ≡ 0 → ⊥ = λ z. false≢true (sym some ∙ eq-eqb (length ds) 0 z) in
      let long : 0 < length (chars ds) = omega (arith, ap length own) in
      false_from_ne_true _ (λ e. let low = ltb-true (digits_value 16 (chars ds)) 0x11_0000 e in
      wrong (rw digits_read ((long, all_digits (chars ds) h), omega (arith, low))))

-- `#x` and digits

pub number_after : (w ds : List ℕ) → w ≡ 35 ∷ 120 ∷ ds →
    begins_number (chars w) ≡ begins_digits (chars ds)
number_after w ds e = ap begins_number (chars_after_word (35 ∷ 120 ∷ []) w ds refl e)

no_number : (cs : List ℕ) → ((rest : List ℕ) → cs ≡ 35 ∷ 120 ∷ rest → ⊥) → false ≡ begins_number cs
no_number [] h = refl
no_number (x ∷ []) h = refl
no_number (x ∷ y ∷ ds) h = grind (arith, nat_tests, h ds)

pub number_otherwise : (w : List ℕ) → IsUtf8 w → ((rest : List ℕ) → w ≡ 35 ∷ 120 ∷ rest → ⊥) →
    false ≡ begins_number (chars w)
number_otherwise w u h = no_number (chars w)
    (λ rest e. h (encodes rest) (word_before (35 ∷ 120 ∷ []) w rest refl u e))
