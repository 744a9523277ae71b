-- Fronts of texts, of bytes that a table has, and of the characters that these bytes make.
use Rattle.std.proofs.Common.{◌≡◌, ℕ, ◌+◌, ◌/◌, ◌<◌, ◌≤◌, Bool, true, false, not, ◌&&◌, cond, List, [], ◌∷◌, ◌++◌, bit_and, chars, length, length-append, take, refl, sym, ap, subst, ◌∙◌, arith}
use Rattle.std.proofs.lemmas.{Bool.{agree_below, agree_below_at, and_from, and_parts, ltb-true}, List.{get_or_past}}
use Rattle.std.proofs.lemmas.Str.{IsUtf8-from_ascii, chars-IsAscii, chars-append, encodes-chars, scalars-chars}
use Rattle.std.proofs.lemmas.{Bool.Decides.{nat_tests}, List.Folds.{list_all-append}, Str.Ascii.{IsAscii-nil, IsAscii-cons}}
use Rattle.std.specs.{List.{list_all}, Prelude.{◌==◌, if◌then◌else◌, nat_le, nat_lt}, Str.{IsUtf8, IsAscii}}
use Rattle.html_names_core.specs.Characters.{all, is_tag_char}
use Rattle.html_text.proofs.Words.{own_bytes}
use Rattle.html_text.specs.Fronts.{BeginsWith, CutsAll, SplitsFront, StopsBetween, begins_with, has_byte, is_common, is_name_char}
use lib.Dec.{ltb, leb}
use lib.Utf8.{scalar, scalars, encode, encodes, next}

-- the bytes up to a place

module _ (has : ℕ → Bool) (text : List ℕ) where
  abbrev pub Had : ℕ → Type 0
  Had at = list_all has (take at text) ≡ true

-- the characters that bytes make

-- a character is of the class if all its bytes are had
abbrev pub IsByBytes : (class has : ℕ → Bool) → Type 0
IsByBytes class has =
    (c : ℕ) → scalar c ≡ true → list_all has (encode c) ≡ true → class c ≡ true

chars_by : (class has : ℕ → Bool) → IsByBytes class has → (cs : List ℕ) → scalars cs ≡ true →
    list_all has (encodes cs) ≡ true → list_all class cs ≡ true
chars_by class has by [] s h = refl
chars_by class has by (c ∷ cs) s h =
    let valid = and_parts (scalar c) (scalars cs) s in
    let parts = and_parts (list_all has (encode c)) (list_all has (encodes cs))
    (sym (list_all-append has (encode c) (encodes cs)) ∙ h) in
    and_from (class c) (list_all class cs) (by c valid.0 parts.0)
    (chars_by class has by cs valid.1 parts.1)

-- a text with such bytes alone has characters of the class alone
pub of_class : (class has : ℕ → Bool) → IsByBytes class has → (text : List ℕ) → IsUtf8 text →
    list_all has text ≡ true → list_all class (chars text) ≡ true
of_class class has by text u h = chars_by class has by (chars text) (scalars-chars text u)
    (ap (list_all has) (encodes-chars text u) ∙ h)

-- a table has, under that bit, the bytes that pass the test
pub by_table : (table : List ℕ) (bit : ℕ) (q : ℕ → Bool) → length table ≡ 256 →
    bit_and 0 bit ≡ 0 → agree_below (has_byte table bit) q 256 ≡ true →
    ((b : ℕ) → 256 ≤ b → q b ≡ false) → has_byte table bit ≡ q
by_table table bit q long zeros low none = λ i b. each b (ltb b 256) refl i where
  each : (b : ℕ) (x : Bool) → ltb b 256 ≡ x → has_byte table bit b ≡ q b
  each b true is = agree_below_at (has_byte table bit) q 256 b low (grind (arith, nat_tests))
  each b false is =
      let over : 256 ≤ b = grind (arith, nat_tests) in
      ap (λ x. not (bit_and x bit == 0)) (get_or_past table b 0 (omega (arith, long, over)))
      ∙ (ap (λ x. not (x == 0)) zeros ∙ sym (none b over))

pub all_of : (p : ℕ → Bool) (cs : List ℕ) → list_all p cs ≡ true → all p cs ≡ true
all_of p [] h = refl
all_of p (c ∷ cs) h = grind (arith, all_of p cs)

pub begins : (text front rest : List ℕ) → IsAscii front → IsUtf8 rest → text ≡ front ++ rest →
    BeginsWith front text rest
begins text front rest ascii u split = record {
  characters = ap chars split
      ∙ (chars-append front rest (IsUtf8-from_ascii front ascii)
      ∙ ap (λ l. l ++ chars rest) (chars-IsAscii front ascii));
  long = ap length split ∙ length-append front rest;
  rest_utf8 = u;
}

-- a class of ASCII

-- its bytes, and those after the first of a character
abbrev pub ascii_byte : (class : ℕ → Bool) → ℕ → Bool
ascii_byte class b = if nat_lt b 128 then class b else nat_le b 191

pub ascii_none : (class : ℕ → Bool) (b : ℕ) → 256 ≤ b → ascii_byte class b ≡ false
ascii_none class b over =
    let one : ltb b 128 ≡ false = grind (arith, nat_tests) in
    let two : leb b 191 ≡ false = grind (arith, nat_tests) in
    rw (one, two) refl

-- such a byte that is not ASCII is not the first of a character
ascii_high : (class : ℕ → Bool) (b : ℕ) → 128 ≤ b → ascii_byte class b ≡ true → b ≤ 191
ascii_high class b over h =
    let is : ltb b 128 ≡ false = grind (arith, nat_tests) in
    let low = rw is at h in
    grind (arith, nat_tests, low)

pub ascii_stops : (class : ℕ → Bool) → StopsBetween (ascii_byte class)
ascii_stops class b h over =
    let is : ltb b 128 ≡ false = grind (arith, nat_tests) in
    let high = rw is at h in
    grind (arith, nat_tests, high)

abbrev is_ascii_of : (class : ℕ → Bool) → ℕ → Bool
is_ascii_of class c = nat_lt c 128 && class c

by_width : (class : ℕ → Bool) (c : ℕ) (x y z : Bool) → ltb c 128 ≡ x →
    list_all (ascii_byte class) (cond x (c ∷ []) (cond y ((192 + c / 64) ∷ next c ∷ [])
    (cond z ((224 + c / 4096) ∷ next (c / 64) ∷ next c ∷ [])
    ((240 + c / 262144) ∷ next (c / 4096) ∷ next (c / 64) ∷ next c ∷ [])))) ≡ true →
    is_ascii_of class c ≡ true
by_width class c true y z one h = rw one (rw one at (and_parts (ascii_byte class c) true h).0)
by_width class c false true z one h =
    absurd (omega (arith, ascii_high class (192 + c / 64) (omega arith) (and_parts _ _ h).0))
by_width class c false false true one h =
    absurd (omega (arith, ascii_high class (224 + c / 4096) (omega arith) (and_parts _ _ h).0))
by_width class c false false false one h =
    absurd (omega (arith, ascii_high class (240 + c / 262144) (omega arith) (and_parts _ _ h).0))

ascii_by : (class : ℕ → Bool) → IsByBytes (is_ascii_of class) (ascii_byte class)
unfolding encode
ascii_by class c s h = by_width class c (ltb c 128) (ltb c 2048) (ltb c 65536) refl h

ascii_from : (class : ℕ → Bool) (cs : List ℕ) → list_all (is_ascii_of class) cs ≡ true →
    IsAscii cs × (all class cs ≡ true)
ascii_from class [] h = (IsAscii-nil, refl)
ascii_from class (c ∷ cs) h =
    let both = and_parts (is_ascii_of class c) (list_all (is_ascii_of class) cs) h in
    let first = and_parts (nat_lt c 128) (class c) both.0 in
    let others = ascii_from class cs both.1 in (
      IsAscii-cons c cs (ltb-true c 128 first.0) others.0,
      and_from (class c) (all class cs) first.1 others.1,
    )

ascii_rest : (class : ℕ → Bool) → ((c : ℕ) → class c ≡ true → c < 128) → (rest : List ℕ) →
    begins_with (ascii_byte class) rest ≡ false → begins_with class rest ≡ false
ascii_rest class small [] h = refl
ascii_rest class small (b ∷ bs) h = grind (arith, nat_tests, small b)

pub cuts : (class has : ℕ → Bool) → has ≡ ascii_byte class →
    ((c : ℕ) → class c ≡ true → c < 128) → (text front rest : List ℕ) →
    SplitsFront has text front rest → CutsAll class text front rest
cuts class has is small text front rest split =
    let had : list_all (ascii_byte class) front ≡ true =
    ap (λ p. list_all p front) (sym is) ∙ split.had in
    let found = ascii_from class (chars front)
    (of_class (is_ascii_of class) (ascii_byte class) (ascii_by class) front split.front_utf8 had) in
    let own : chars front ≡ front = sym (own_bytes front split.front_utf8 found.0) in
    record {
      begins = begins text front rest (subst IsAscii own found.0) split.rest_utf8 split.parts;
      are = ap (all class) (sym own) ∙ found.1;
      stops = ascii_rest class small rest (ap (λ p. begins_with p rest) (sym is) ∙ split.stops);
    }

-- the classes

pub common_small : (c : ℕ) → is_common c ≡ true → c < 128
unfolding is_common
common_small c h = grind (arith, nat_tests)

pub tag_small : (c : ℕ) → is_tag_char c ≡ true → c < 128
tag_small c h = grind (arith, nat_tests)

pub name_small : (c : ℕ) → is_name_char c ≡ true → c < 128
name_small c h = grind (arith, nat_tests)

all_ascii : (class : ℕ → Bool) → ((c : ℕ) → class c ≡ true → c < 128) → (cs : List ℕ) →
    all class cs ≡ true → IsAscii cs
all_ascii class small [] h = IsAscii-nil
all_ascii class small (c ∷ cs) h =
    let both = and_parts (class c) (all class cs) h in
    IsAscii-cons c cs (small c both.0) (all_ascii class small cs both.1)

pub common_ascii : (cs : List ℕ) → all is_common cs ≡ true → IsAscii cs
common_ascii = all_ascii is_common common_small

pub tag_ascii : (cs : List ℕ) → all is_tag_char cs ≡ true → IsAscii cs
tag_ascii = all_ascii is_tag_char tag_small

pub name_ascii : (cs : List ℕ) → all is_name_char cs ≡ true → IsAscii cs
name_ascii = all_ascii is_name_char name_small
