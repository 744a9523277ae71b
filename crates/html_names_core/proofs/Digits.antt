-- Digits of numbers as characters.
use Rattle.std.proofs.Common.{◌≡◌, ℕ, ◌+◌, ◌<◌, ◌/◌, ◌%◌, ◌++◌, List, [], ◌∷◌, chars, false, ◌^◌, ap, ◌∙◌, append_assoc, arith, IsUtf8}
use Rattle.std.proofs.lemmas.{Bool.Decides.{nat_tests}, Fmt.{digits_is_IsNumeral}, Str.{chars-IsAscii}}
use Rattle.std.{proofs.lemmas.Str.Ascii.{IsAscii-nil, IsAscii-cons}, specs.Char.{digit_value}, specs.Fmt.{digits}, specs.Str.{IsAscii}}
use Rattle.std.specs.Str.Parse.{AllDigits}
use Rattle.html_names_core.{proofs.Texts.{chars_add}, specs.Texts.{two_digits}}

digit_ascii : (c : ℕ) → digit_value c < 16 → c < 128
digit_ascii c h = grind (arith, nat_tests)

pub digits_ascii : (ds : List ℕ) → AllDigits 16 ds → IsAscii ds
digits_ascii [] h = IsAscii-nil
digits_ascii (c ∷ cs) h = IsAscii-cons c cs (digit_ascii c h.0) (digits_ascii cs h.1)

pub chars-digits : (n : ℕ) → n < 2 ^ 32 → chars (digits 16 false n) ≡ digits 16 false n
chars-digits n h =
    let numeral = (digits_is_IsNumeral 16 false (omega arith) (omega arith) n (omega arith)).0 in
    chars-IsAscii (digits 16 false n) (digits_ascii (digits 16 false n) numeral.1)

-- a text that grows by the two digits of a number below a hundred, one after the other
pub chars_two : (old start mid new tens ones : List ℕ) (n : ℕ) → IsUtf8 old → n < 100 →
    tens ≡ (48 + n / 10) ∷ [] → ones ≡ (48 + n % 10) ∷ [] →
    start ≡ old → mid ≡ start ++ tens → new ≡ mid ++ ones →
    chars new ≡ chars old ++ two_digits n
chars_two old start mid new tens ones n u small first second begun grown whole =
    let high = 48 + n / 10 in
    let low = 48 + n % 10 in
    let both : new ≡ old ++ two_digits n =
    whole ∙ rw (grown, begun, first, second) (append_assoc old (high ∷ []) (low ∷ [])) in
    let ascii : IsAscii (two_digits n) =
    IsAscii-cons high (low ∷ []) (omega (arith, small))
    (IsAscii-cons low [] (omega arith) IsAscii-nil) in
    chars_add old new (two_digits n) u both
    ∙ ap (λ l. chars old ++ l) (chars-IsAscii (two_digits n) ascii)
