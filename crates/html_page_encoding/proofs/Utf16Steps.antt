-- UTF-16, character by character.
use Rattle.std.proofs.Common.{◌≡◌, ℕ, ◌+◌, ◌<◌, Bool, true, false, ◌&&◌, inl, inr, List, [], ◌∷◌, ◌++◌, length, leb, ltb, refl, sym, ap, ◌∙◌, subst, arith, append_assoc, Option, Some, None, Result, Ok, Err}
use Rattle.std.proofs.lemmas.{Bool.{cases_Bool, false≢true}, Bool.Decides.{nat_tests}}
use Rattle.std.specs.{Char.{InScalarRange, OutOfScalarRange}, Prelude.{is_some}}
use Rattle.std.specs.Char.Utf16.{is_high_surrogate, is_low_surrogate, surrogate_pair_char, utf16_chars}
use Rattle.html_page_encoding.specs.Decoded.{gathered, is_odd, put_first, units, utf16_from, utf16_size}
use Rattle.html_page_encoding.specs.Units.{HasNoUnit, StartsChar, StartsUnit, pair_char}

abbrev is_surrogate : ℕ → Bool
is_surrogate u = leb 0xd800 u && ltb u 0xe000

pub no_surrogate : (u : ℕ) → InScalarRange u → is_surrogate u ≡ false
no_surrogate u (inl low) = grind (arith, nat_tests)
no_surrogate u (inr high) = grind (arith, nat_tests)

pub surrogate : (u : ℕ) → u < 0x1_0000 → OutOfScalarRange u → is_surrogate u ≡ true
surrogate u small (inl within) = grind (arith, nat_tests)
surrogate u small (inr large) = absurd (omega arith)

no_high : (u : ℕ) → is_surrogate u ≡ false → is_high_surrogate u ≡ false
no_high u h = grind (arith, nat_tests)

lone_next : (u : ℕ) (us : List ℕ) → is_surrogate u ≡ false →
    utf16_chars (u ∷ us) ≡ Some u ∷ utf16_chars us
unfolding utf16_chars
lone_next u [] h = rw h refl
lone_next u (v ∷ us) h = rw (no_high u h, h) refl

lost_last : (u : ℕ) → is_surrogate u ≡ true → utf16_chars (u ∷ []) ≡ None ∷ []
unfolding utf16_chars
lost_last u h = rw h refl

lost_next : (u v : ℕ) (us : List ℕ) → is_surrogate u ≡ true →
    (is_high_surrogate u && is_low_surrogate v) ≡ false →
    utf16_chars (u ∷ v ∷ us) ≡ None ∷ utf16_chars (v ∷ us)
unfolding utf16_chars
lost_next u v us h apart = rw (apart, h) refl

pair_next : (u v : ℕ) (us : List ℕ) → (is_high_surrogate u && is_low_surrogate v) ≡ true →
    utf16_chars (u ∷ v ∷ us) ≡ Some (surrogate_pair_char u v) ∷ utf16_chars us
unfolding utf16_chars
pair_next u v us together = rw together refl

none_apart : (u v : ℕ) → pair_char u v ≡ None → (is_high_surrogate u && is_low_surrogate v) ≡ false
none_apart u v e = elim (cases_Bool (is_high_surrogate u && is_low_surrogate v)) [
  | inl h ↦
      let made : pair_char u v ≡ Some (surrogate_pair_char u v) = rw h refl in
      absurd (false≢true (ap is_some (sym e ∙ made)))
  | inr h ↦ h
]

some_together : (u v c : ℕ) → pair_char u v ≡ Some c →
    ((is_high_surrogate u && is_low_surrogate v) ≡ true) × (surrogate_pair_char u v ≡ c)
some_together u v c e = elim (cases_Bool (is_high_surrogate u && is_low_surrogate v)) [
  | inl h ↦
      let made : pair_char u v ≡ Some (surrogate_pair_char u v) = rw h refl in
      let same : Some (surrogate_pair_char u v) ≡ Some c = sym made ∙ e in
      (h, cc)
  | inr h ↦
      let lost : pair_char u v ≡ None = rw h refl in
      absurd (false≢true (ap is_some (sym lost ∙ e)))
]

-- of so many characters
spelled : (big : Bool) (place : ℕ) (bytes : List ℕ) (odd : Bool) (os : List (Option ℕ)) →
    is_odd bytes ≡ odd → utf16_chars (units big bytes) ≡ os →
    utf16_from big place bytes ≡ gathered odd place os
unfolding utf16_from
spelled big place bytes odd os is are =
    ap (λ o. gathered o place (utf16_chars (units big bytes))) is ∙ ap (gathered odd place) are

rest_spelled : (big : Bool) (place : ℕ) (rest : List ℕ) →
    gathered (is_odd rest) place (utf16_chars (units big rest)) ≡ utf16_from big place rest
unfolding utf16_from
rest_spelled big place rest = refl

-- bytes that begin with a unit
module _ (big : Bool) (bytes behind : List ℕ) (u : ℕ) (first : StartsUnit big bytes u behind) where
  pub lone_char : (c : ℕ) → c ≡ u → is_surrogate u ≡ false → StartsChar big bytes c behind
  lone_char c same h =
      let size : utf16_size u ≡ 2 = grind (arith, nat_tests, first.small) in
      subst (λ d. StartsChar big bytes d behind) (sym same) (record {
        decoded = λ place. spelled big place bytes (is_odd behind) _ first.odd
            (ap utf16_chars first.units ∙ lone_next u (units big behind) h)
            ∙ ap (put_first u) (rest_spelled big (place + utf16_size u) behind);
        long = omega (arith, first.long, size);
      })

  pub lost_unit : is_surrogate u ≡ true → HasNoUnit big behind → (place : ℕ) →
      utf16_from big place bytes ≡ Err place
  lost_unit h none place = spelled big place bytes (is_odd bytes) (None ∷ []) refl
      (ap utf16_chars first.units
      ∙ (ap (λ us. utf16_chars (u ∷ us)) none.units ∙ lost_last u h))

  module _ (rest : List ℕ) (v : ℕ) (second : StartsUnit big behind v rest) where
    are : units big bytes ≡ u ∷ v ∷ units big rest
    are = first.units ∙ ap (λ us. u ∷ us) second.units

    pub lost_pair : is_surrogate u ≡ true → pair_char u v ≡ None → (place : ℕ) →
        utf16_from big place bytes ≡ Err place
    lost_pair h none place = spelled big place bytes (is_odd bytes) _ refl
        (ap utf16_chars are ∙ lost_next u v (units big rest) h (none_apart u v none))

    pub paired : (c : ℕ) → pair_char u v ≡ Some c → StartsChar big bytes c rest
    paired c some =
        let found = some_together u v c some in
        let size : utf16_size c ≡ 4 = grind (arith, nat_tests, found.1) in
        record {
          decoded = λ place. spelled big place bytes (is_odd rest) _ (first.odd ∙ second.odd)
              (ap utf16_chars are ∙ (pair_next u v (units big rest) found.0
              ∙ ap (λ d. Some d ∷ utf16_chars (units big rest)) found.1))
              ∙ ap (put_first c) (rest_spelled big (place + utf16_size c) rest);
          long = omega (arith, first.long, second.long, size);
        }

pub lost_byte : (big : Bool) (bytes : List ℕ) → 0 < length bytes → HasNoUnit big bytes →
    (place : ℕ) → utf16_from big place bytes ≡ Err place
unfolding utf16_chars
lost_byte big bytes some none place =
    spelled big place bytes true [] (none.odd some) (ap utf16_chars none.units)

pub none_left : (big : Bool) (place : ℕ) (bytes : List ℕ) → bytes ≡ [] →
    utf16_from big place bytes ≡ Ok []
unfolding utf16_from utf16_chars
none_left big place bytes e = ap (utf16_from big place) e

-- behind a text
abbrev pub continued : List ℕ → Result (List ℕ) ℕ → Result (List ℕ) ℕ
continued text (Ok cs) = Ok (text ++ cs)
continued text (Err place) = Err place

pub one_more : (text : List ℕ) (c : ℕ) (r : Result (List ℕ) ℕ) →
    continued text (put_first c r) ≡ continued (text ++ c ∷ []) r
one_more text c (Ok cs) = ap Ok (sym (append_assoc text (c ∷ []) cs))
one_more text c (Err place) = refl
