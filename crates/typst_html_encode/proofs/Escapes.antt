-- Escapes of texts, one after another.
use Rattle.std.proofs.Common.{◌≡◌, ℕ, true, false, eqb, List, [], ◌∷◌, ◌++◌, length, chars, codes, refl, sym, ap, ◌∙◌, append_assoc}
use Rattle.std.proofs.{StrCases.{chars_of_empty}, lemmas.Bool.{false≢true, eqb-true}, lemmas.Str.{encodes-chars}}
use Rattle.std.specs.Str.{IsUtf8}
use lib.Utf8.{encodes}
use Rattle.typst_html_encode.specs.{Text.{char_text, escaped_text, value_text}, declared.escape.Escaping.{Escaping}}
use Rattle.typst_html_encode.specs.declared.escape.Escaping.TheVariants as escaping

pub escaped_text-append : (e : Escaping) (s t : List ℕ) →
    escaped_text e (s ++ t) ≡ escaped_text e s ++ escaped_text e t
escaped_text-append e [] t = refl
escaped_text-append e (c ∷ s) t = ap (λ l. char_text e c ++ l) (escaped_text-append e s t)
    ∙ sym (append_assoc (char_text e c) (escaped_text e s) (escaped_text e t))

pub escaped_text-raw : (s : List ℕ) → escaped_text escaping.Raw s ≡ s
escaped_text-raw [] = refl
escaped_text-raw (c ∷ s) = ap (λ l. c ∷ l) (escaped_text-raw s)

-- a value, from its bytes
pub value-empty : (t : List ℕ) → eqb (length t) 0 ≡ true → chars t ≡ []
value-empty t h = chars_of_empty t (eqb-true (length t) 0 h)

value_by : (cs t : List ℕ) → encodes cs ≡ t → eqb (length t) 0 ≡ false →
    value_text cs ≡ codes "=\"" ++ (escaped_text escaping.Value cs ++ codes "\"")
value_by [] t e h = absurd (false≢true (sym h ∙ ap (λ l. eqb (length l) 0) (sym e)))
value_by (c ∷ cs) t e h = refl

pub value-full : (t : List ℕ) → IsUtf8 t → eqb (length t) 0 ≡ false →
    value_text (chars t) ≡ codes "=\"" ++ (escaped_text escaping.Value (chars t) ++ codes "\"")
value-full t u h = value_by (chars t) t (encodes-chars t u) h

pub ruleset values = (value-empty, value-full, append_assoc)
