-- Laws of replaced texts.
use Rattle.std.proofs.Common.{◌≡◌, ℕ, Bool, true, false, not, [], ◌∷◌, cond, eqb, refl, ap, ◌∙◌}
use Rattle.std.proofs.lemmas.Bool.{and_from, and_parts, not-true}
use Rattle.html_names_core.specs.Characters.{all, is_text_char}
use Rattle.html_clean_values.specs.Replaced.{is_plain_char, replaced, replaced_char}
use Rattle.html_clean_values.specs.ValueLaws.{PlainStays, ReplacedIsPlain, ReplacedOnce}

line_end : (c : ℕ) → eqb c 13 ≡ true → replaced_char c ≡ 10
unfolding replaced_char
line_end c is = ap (λ b. cond b 10 (cond (is_text_char c) c 0xfffd)) is

other : (c : ℕ) → eqb c 13 ≡ false → is_text_char c ≡ false → replaced_char c ≡ 0xfffd
unfolding replaced_char
other c is bad = ap (λ b. cond b 10 (cond (is_text_char c) c 0xfffd)) is
    ∙ ap (λ b. cond b c 0xfffd) bad

stays : (c : ℕ) → eqb c 13 ≡ false → is_text_char c ≡ true → replaced_char c ≡ c
unfolding replaced_char
stays c is good = ap (λ b. cond b 10 (cond (is_text_char c) c 0xfffd)) is
    ∙ ap (λ b. cond b c 0xfffd) good

char_is_plain : (c : ℕ) → is_plain_char (replaced_char c) ≡ true
char_is_plain c = by (eqb c 13) (is_text_char c) refl refl where
  by : (a b : Bool) → eqb c 13 ≡ a → is_text_char c ≡ b → is_plain_char (replaced_char c) ≡ true
  by true b is good = ap is_plain_char (line_end c is)
  by false true is good = ap is_plain_char (stays c is good)
      ∙ and_from (is_text_char c) (not (eqb c 13)) good (ap not is)
  by false false is good = ap is_plain_char (other c is good)

plain_char_stays : (c : ℕ) → is_plain_char c ≡ true → replaced_char c ≡ c
plain_char_stays c is =
    let both = and_parts (is_text_char c) (not (eqb c 13)) is in
    stays c (not-true (eqb c 13) both.1) both.0

pub replaced_is_plain : ReplacedIsPlain
replaced_is_plain [] = refl
replaced_is_plain (c ∷ cs) =
    and_from (is_plain_char (replaced_char c)) (all is_plain_char (replaced cs))
    (char_is_plain c) (replaced_is_plain cs)

pub plain_stays : PlainStays
plain_stays [] is = refl
plain_stays (c ∷ cs) is =
    let both = and_parts (is_plain_char c) (all is_plain_char cs) is in
    ap (λ d. d ∷ replaced cs) (plain_char_stays c both.0) ∙ ap (λ l. c ∷ l) (plain_stays cs both.1)

pub replaced_once : ReplacedOnce
replaced_once text = plain_stays (replaced text) (replaced_is_plain text)
