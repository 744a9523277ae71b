-- Numbers in small hexadecimal digits.
use Rattle.std.proofs.Common.{◌≡◌, ℕ, ◌<◌, ◌^◌, true, false, ◌&&◌, inl, inr, List, [], ◌∷◌, Some, None, eqb, nat_lt, bytes_eq, chars, refl, sym, ap, ◌∙◌, subst, arith, ltb-true}
use Rattle.std.proofs.lemmas.{Bool.{cases_Bool, and_parts, lt-ltb}, Fmt.{digits_is_IsNumeral}, Str.{encodes-chars, encodes-IsAscii}}
use Rattle.std.{proofs.lemmas.Bool.Decides.{nat_tests}, proofs.lemmas.Slice.Eq.{bytes_eq-Decides}, specs.Fmt.{digits}, specs.Str.{IsUtf8}}
use Rattle.std.specs.Str.Parse.{AllDigits, IsNumeral, digits_value, without_leading_plus}
use lib.Utf8.{scalar, scalar_fits, encodes}
use Rattle.typst_html_encode.specs.References.{numbered_char}
use Rattle.html_names_core.proofs.Digits.{chars-digits, digits_ascii}

pub no_plus : (ds : List ℕ) → AllDigits 16 ds → without_leading_plus ds ≡ ds
no_plus [] h = refl
no_plus (c ∷ cs) h = let other : eqb c 43 ≡ false = grind (arith, nat_tests, h.0) in rw other refl

-- the digits of a number that is a character
module _ (bs : List ℕ) (c : ℕ) (e : bs ≡ digits 16 false c) (s : scalar c ≡ true) where
  numeral : IsNumeral 16 (digits 16 false c) × (digits_value 16 (digits 16 false c) ≡ c)
  numeral = let small = scalar_fits c s in
      digits_is_IsNumeral 16 false (omega arith) (omega arith) c (omega arith)

  bare : without_leading_plus bs ≡ digits 16 false c
  bare = ap without_leading_plus e ∙ no_plus (digits 16 false c) numeral.0.1

  pub is_number : digits_value 16 (without_leading_plus bs) ≡ c
  is_number = ap (digits_value 16) bare ∙ numeral.1

  pub is_read : IsNumeral 16 (without_leading_plus bs)
      × (digits_value 16 (without_leading_plus bs) < 2 ^ 32)
  is_read = (
    subst (IsNumeral 16) (sym bare) numeral.0,
    subst (λ n. n < 2 ^ 32) (sym is_number) (scalar_fits c s),
  )

-- a text is the digits of none
pub none_numbered : (bs : List ℕ) → IsUtf8 bs →
    ((c : ℕ) → bs ≡ digits 16 false c → scalar c ≡ true → 0 < c → ⊥) →
    None ≡ numbered_char (chars bs)
none_numbered bs u h =
    let cs = chars bs in
    let v = digits_value 16 cs in
    elim (cases_Bool ((scalar v && nat_lt 0 v) && bytes_eq cs (digits 16 false v))) [
      | inl e ↦
          let p = and_parts (scalar v && nat_lt 0 v) (bytes_eq cs (digits 16 false v)) e in
          let q = and_parts (scalar v) (nat_lt 0 v) p.0 in
          let small = scalar_fits v q.0 in
          let ascii = digits_ascii (digits 16 false v)
          (digits_is_IsNumeral 16 false (omega arith) (omega arith) v (omega arith)).0.1 in
          absurd (h v (sym (encodes-chars bs u)
          ∙ (ap encodes ((bytes_eq-Decides cs (digits 16 false v)).0 p.1)
          ∙ encodes-IsAscii (digits 16 false v) ascii)) q.0 (ltb-true 0 v q.1))
      | inr e ↦ rw e refl
    ]

pub one_numbered : (bs : List ℕ) (c : ℕ) → bs ≡ digits 16 false c → scalar c ≡ true → 0 < c →
    Some c ≡ numbered_char (chars bs)
one_numbered bs c e s h =
    let small = scalar_fits c s in
    let ds = digits 16 false c in
    let v : digits_value 16 ds ≡ c = (numeral bs c e s).1 in
    let own : bytes_eq ds ds ≡ true = (bytes_eq-Decides ds ds).1 refl in
    let some = lt-ltb 0 c h in
    let here : numbered_char ds ≡ Some c = rw (v, own) (rw (s, some) refl) in
    sym (ap numbered_char (ap chars e ∙ chars-digits c (omega arith)) ∙ here)
