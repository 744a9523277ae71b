-- A text of one character.
use Rattle.std.proofs.Common.{◌≡◌, ℕ, List, [], ◌∷◌, ◌++◌, length, ap, ◌∙◌, chars, IsUtf8, arith}
use Rattle.std.proofs.lemmas.Str.{chars-nil, chars_past_char, IsUtf8-past_char}
use lib.Utf8.{encode}
use Rattle.html_values.specs.Casts.{one_char, gives, refuses}
use Rattle.html_values_css.specs.declared.cast_fault.CastFault.TheVariants.{NotOneChar}

chars-empty : (rest : List ℕ) → length rest ≡ 0 → chars rest ≡ []
chars-empty [] h = chars-nil
chars-empty (b ∷ bs) h = absurd (omega arith)

pub one_is : (bs rest : List ℕ) (c : ℕ) → IsUtf8 bs → bs ≡ encode c ++ rest → length rest ≡ 0
    → one_char (chars bs) ≡ gives (c ∷ [])
one_is bs rest c u e none =
    ap one_char (chars_past_char bs rest c u e ∙ ap (λ l. c ∷ l) (chars-empty rest none))

pub more_are : (bs rest more : List ℕ) (c d : ℕ) → IsUtf8 bs → bs ≡ encode c ++ rest
    → rest ≡ encode d ++ more → one_char (chars bs) ≡ refuses NotOneChar
more_are bs rest more c d u e f =
    let second = chars_past_char rest more d (IsUtf8-past_char bs rest c u e) f in
    ap one_char (chars_past_char bs rest c u e ∙ ap (λ l. c ∷ l) second)
