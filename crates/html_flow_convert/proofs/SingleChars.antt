-- Texts of one character.
use Rattle.std.proofs.{Common.{◌≡◌, ℕ, ◌<◌, ◌==◌, List, [], ◌∷◌, bytes_eq, chars, refl, sym, ap, ◌∙◌}, Math.Bool.{and-true, and-false}}
use Rattle.std.proofs.lemmas.{Str.{chars-IsAscii, IsUtf8-from_ascii}, Str.Ascii.{IsAscii-cons, IsAscii-nil}}
use Rattle.std.specs.Str.{IsAscii, IsUtf8}
use Rattle.html_names_core.proofs.Lists.{bytes_eq-chars}
use Rattle.html_flow_convert.specs.Nodes.{is_one}

one_of : (d : ℕ) (cs : List ℕ) → is_one d cs ≡ bytes_eq cs (d ∷ [])
one_of d [] = refl
one_of d (c ∷ []) = sym (and-true (c == d))
one_of d (c ∷ e ∷ cs) = sym (and-false (c == d))

pub one_byte : (d : ℕ) (text : List ℕ) → d < 128 → IsUtf8 text → is_one d (chars text) ≡ is_one d text
one_byte d text small u =
    let ascii : IsAscii (d ∷ []) = IsAscii-cons d [] small IsAscii-nil in
    one_of d (chars text)
    ∙ (ap (bytes_eq (chars text)) (sym (chars-IsAscii (d ∷ []) ascii))
    ∙ (bytes_eq-chars text (d ∷ []) u (IsUtf8-from_ascii (d ∷ []) ascii) ∙ sym (one_of d text)))
