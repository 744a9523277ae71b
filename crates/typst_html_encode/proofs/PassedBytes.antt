-- Bytes that are passed, and the characters that they make.
use Rattle.std.proofs.Common.{◌≡◌, ℕ, ◌+◌, ◌/◌, ◌<◌, ◌≤◌, Bool, true, false, not, cond, List, [], ◌∷◌, arith, refl, ap, ◌∙◌, sym, chars, bit_and}
use Rattle.std.{proofs.lemmas.Bool.{agree_below, and_parts, and_right, not-true}, proofs.lemmas.Bool.Decides.{nat_tests}, specs.List.{list_all}}
use Rattle.html_names_core.specs.Characters.{is_text_char}
use Rattle.html_text.{proofs.Fronts.{IsByBytes, all_of, by_table, of_class}, specs.Fronts.{SplitsFront, StopsBetween, has_byte}}
use Rattle.typst_html_encode.specs.{ExportFaults.{is_reference}, PlainStretches.{is_passed, is_passed_high, is_plain, PassesPlain, Selects}}
use Rattle.typst_html_encode.specs.declared.{escape.Escaping.{Escaping}, stretch.TheConstants.{PASSED}}
use Rattle.typst_html_encode.specs.declared.escape.Escaping.TheVariants as escaping
use lib.Dec.{ltb, leb}
use lib.Utf8.{scalar, encode, next}

high_text : (c : ℕ) → scalar c ≡ true → 192 ≤ c → c < 61440 → is_text_char c ≡ true
high_text c s low high = grind (arith, nat_tests)

-- a character between these two is plain in each text but one of references alone
high_plain : (e : Escaping) (c : ℕ) → is_reference e ≡ false → is_text_char c ≡ true → 192 ≤ c →
    is_plain e c ≡ true
high_plain escaping.Text c r t low = grind (arith, nat_tests)
high_plain escaping.Reference c r t low = cc
high_plain escaping.Value c r t low = grind (arith, nat_tests)
high_plain escaping.Raw c r t low = grind (arith, nat_tests)

passed_low : (e : Escaping) (b : ℕ) → b < 128 → is_passed e b ≡ true → is_plain e b ≡ true
unfolding is_passed
passed_low e b low h =
    let is : ltb b 128 ≡ true = grind (arith, nat_tests) in
    (and_parts _ _ (rw is at h)).1

-- the first byte of a character that is not ASCII
passed_lead : (e : Escaping) (b : ℕ) → 192 ≤ b → is_passed e b ≡ true →
    (is_reference e ≡ false) × (195 ≤ b) × (b ≤ 238)
unfolding is_passed is_passed_high
passed_lead e b low h =
    let is : ltb b 128 ≡ false = grind (arith, nat_tests) in
    let parts = and_parts _ _ (rw is at h) in
    let high = parts.1 in
    (not-true (is_reference e) parts.0, grind (arith, nat_tests, high), grind (arith, nat_tests, high))

by_width : (e : Escaping) (c : ℕ) (x y z : Bool) → scalar c ≡ true → ltb c 128 ≡ x →
    ltb c 2048 ≡ y → ltb c 65536 ≡ z →
    list_all (is_passed e) (cond x (c ∷ []) (cond y ((192 + c / 64) ∷ next c ∷ [])
    (cond z ((224 + c / 4096) ∷ next (c / 64) ∷ next c ∷ [])
    ((240 + c / 262144) ∷ next (c / 4096) ∷ next (c / 64) ∷ next c ∷ [])))) ≡ true →
    is_plain e c ≡ true
by_width e c true y z s one two three h =
    passed_low e c (grind (arith, nat_tests)) (and_parts _ _ h).0
by_width e c false true z s one two three h =
    let lead = passed_lead e (192 + c / 64) (omega arith) (and_parts _ _ h).0 in
    let low : 192 ≤ c = omega (arith, lead.1) in
    let below : c < 2048 = grind (arith, nat_tests) in
    high_plain e c lead.0 (high_text c s low (omega (arith, below))) low
by_width e c false false true s one two three h =
    let lead = passed_lead e (224 + c / 4096) (omega arith) (and_parts _ _ h).0 in
    let over : 2048 ≤ c = grind (arith, nat_tests) in
    let low : 192 ≤ c = omega (arith, over) in
    high_plain e c lead.0 (high_text c s low (omega (arith, lead.2))) low
by_width e c false false false s one two three h =
    let lead = passed_lead e (240 + c / 262144) (omega arith) (and_parts _ _ h).0 in
    absurd (omega (arith, lead.2))

passed_char : (e : Escaping) → IsByBytes (is_plain e) (is_passed e)
unfolding encode
passed_char e c s h = by_width e c (ltb c 128) (ltb c 2048) (ltb c 65536) s refl refl refl h

-- a byte that is not passed begins a character
begins_char : (e : Escaping) (b : ℕ) → is_reference e ≡ false → is_passed e b ≡ false → 128 ≤ b →
    192 ≤ b
unfolding is_passed is_passed_high
begins_char e b r h over =
    let is : ltb b 128 ≡ false = grind (arith, nat_tests) in
    let high = rw (r, is) at h in
    grind (arith, nat_tests, high)

pub stops_between : (e : Escaping) (way : ℕ) → is_reference e ≡ false → Selects e way →
    StopsBetween (has_byte PASSED way)
stops_between e way r selects b h over = begins_char e b r (sym (selects b) ∙ h) over

pub passes_front : (e : Escaping) (way : ℕ) (text front rest : List ℕ) → Selects e way →
    SplitsFront (has_byte PASSED way) text front rest → PassesPlain e text rest
passes_front e way text front rest selects split =
    let same : has_byte PASSED way ≡ is_passed e = λ i b. selects b i in
    let passed : list_all (is_passed e) front ≡ true =
    ap (λ p. list_all p front) (sym same) ∙ split.had in
    record {
      front = front;
      split = split.parts;
      front_utf8 = split.front_utf8;
      rest_utf8 = split.rest_utf8;
      plain = all_of (is_plain e) (chars front)
          (of_class (is_plain e) (is_passed e) (passed_char e) front split.front_utf8 passed);
    }

-- the numbers of the escapings

unpassed : (e : Escaping) (b : ℕ) → 256 ≤ b → is_passed e b ≡ false
unfolding is_passed is_passed_high
unpassed e b over =
    let is : ltb b 128 ≡ false = grind (arith, nat_tests) in
    let one : leb b 191 ≡ false = grind (arith, nat_tests) in
    let two : leb b 238 ≡ false = grind (arith, nat_tests) in
    rw (is, one, two) (and_right (not (is_reference e)) _ (and_right (leb 195 b) false refl))

selects : (e : Escaping) (way : ℕ) → agree_below (has_byte PASSED way) (is_passed e) 256 ≡ true →
    bit_and 0 way ≡ 0 → Selects e way
selects e way low zeros =
    λ b. ap (λ p. p b) (by_table PASSED way (is_passed e) refl zeros low (unpassed e))

pub selects_text : Selects escaping.Text 1
unfolding is_passed is_passed_high
selects_text = selects escaping.Text 1 refl refl

pub selects_reference : Selects escaping.Reference 0
unfolding is_passed is_passed_high
selects_reference = selects escaping.Reference 0 refl refl

pub selects_value : Selects escaping.Value 2
unfolding is_passed is_passed_high
selects_value = selects escaping.Value 2 refl refl

pub selects_raw : Selects escaping.Raw 4
unfolding is_passed is_passed_high
selects_raw = selects escaping.Raw 4 refl refl
