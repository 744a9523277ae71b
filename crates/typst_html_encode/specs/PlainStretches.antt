-- Stretches of a text that are written as they are, in one piece.
use Rattle.std.specs.Prelude.{◌≡◌, ℕ, Bool, true, not, ◌||◌, ◌&&◌, if◌then◌else◌, nat_le, nat_lt, List, ◌++◌, chars, length, ◌≤◌}
use Rattle.std.specs.Str.{IsUtf8}
use Rattle.html_names_core.specs.Characters.{all}
use Rattle.html_text.specs.Fronts.{has_byte}
use Rattle.typst_html_encode.specs.{ExportFaults.{is_bad, is_reference, text_faults}, Text.{stands_as_is, escaped_text}}
use Rattle.typst_html_encode.specs.declared.{escape.Escaping.{Escaping}, stretch.TheConstants.{PASSED}}

-- the character can be written, and is written as it is
abbrev pub is_plain : Escaping → ℕ → Bool
is_plain e c = stands_as_is e c && not (is_bad e c)

-- a text of that escaping is passed as far as it has such bytes: plain ASCII, bytes after the first
-- of a character, and first bytes of the characters U+00C0 to U+EFFF
unfoldable pub is_passed_high : ℕ → Bool
is_passed_high b = nat_le b 191 || (nat_le 195 b && nat_le b 238)

unfoldable pub is_passed : Escaping → ℕ → Bool
is_passed e b =
    not (is_reference e) && (if nat_lt b 128 then is_plain e b else is_passed_high b)

-- the number is that of the escaping
abbrev pub Selects : Escaping → (way : ℕ) → Type 0
Selects e way = (b : ℕ) → has_byte PASSED way b ≡ is_passed e b

-- the rest is the text without some characters at its beginning, each of which is written as it is
pub record PassesPlain (e : Escaping) (text rest : List ℕ) : Type 0 where
  pub front : List ℕ
  pub split : text ≡ front ++ rest
  pub front_utf8 : IsUtf8 front
  pub rest_utf8 : IsUtf8 rest
  pub plain : all (is_plain e) (chars front) ≡ true

-- the text before the rest is written
pub record WritesUpTo (e : Escaping) (old new text rest : List ℕ) : Type 0 where
  pub agrees : new ++ escaped_text e (chars rest) ≡ old ++ escaped_text e (chars text)
  pub clean : (span : ℕ) → text_faults e span (chars rest) ≡ text_faults e span (chars text)
  pub rest_utf8 : IsUtf8 rest
  pub left : length rest ≤ length text
