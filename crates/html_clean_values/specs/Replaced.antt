-- Texts that a writer can write and a browser reads as they are.
use Rattle.std.specs.Prelude.{ℕ, Bool, not, ◌&&◌, ◌==◌, List, map, if◌then◌else◌}
use Rattle.html_names_core.specs.Characters.{is_text_char}

-- a carriage return becomes a line feed, as in the input stream of a page (HTML Standard 13.2.3.5),
-- and a character that is no text character U+FFFD
unfoldable pub replaced_char : ℕ → ℕ
replaced_char c = if c == 13 then 10 else (if is_text_char c then c else 0xfffd)

abbrev pub replaced : List ℕ → List ℕ
replaced = map replaced_char

-- a text character other than U+000D
abbrev pub is_plain_char : ℕ → Bool
is_plain_char c = is_text_char c && not (c == 13)
