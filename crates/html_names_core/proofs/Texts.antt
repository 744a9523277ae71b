-- The characters of a text, and of one that grows.
use Rattle.std.proofs.Common.{◌≡◌, ℕ, true, String, Global, string_bytes, List, [], ◌∷◌, ◌++◌, sym, ap, ◌∙◌, chars, IsUtf8}
use Rattle.std.proofs.lemmas.Str.{chars-append, encodes-chars, IsUtf8-string_bytes}
use lib.Utf8.{scalar, encode, encodes}
use Rattle.html_names_core.{proofs.Basics.{chars-encode}, specs.Texts.{text_view}}

-- texts with the same characters are equal
pub text_views : (a b : String Global) → text_view a ≡ text_view b → string_bytes a ≡ string_bytes b
text_views a b e = sym (encodes-chars (string_bytes a) (IsUtf8-string_bytes a))
    ∙ (ap encodes e ∙ encodes-chars (string_bytes b) (IsUtf8-string_bytes b))

pub chars_push : (old new : List ℕ) (c : ℕ) → IsUtf8 old → scalar c ≡ true → new ≡ old ++ encode c →
    chars new ≡ chars old ++ c ∷ []
chars_push old new c u h e = ap chars e
    ∙ (chars-append old (encode c) u ∙ ap (λ l. chars old ++ l) (chars-encode c h))

pub chars_add : (old new s : List ℕ) → IsUtf8 old → new ≡ old ++ s →
    chars new ≡ chars old ++ chars s
chars_add old new s u e = ap chars e ∙ chars-append old s u
