-- Where the text of a raw element ends, by its bytes.
use Rattle.std.specs.{Char.{to_ascii_lowercase}, Prelude.{◌≡◌, ℕ, ◌-◌, Bool, true, ◌&&◌, List, bytes_eq, chars, drop, length, map, take}}
use Rattle.std.specs.Str.{IsCharBoundary}
use Rattle.html_text.specs.ClosingTags.{is_tag_end, ends_closing, ends_exact, before_closing}

-- the text followed by the character ends in a closing tag
abbrev pub ends_raw : (name text : List ℕ) → ℕ → Bool
ends_raw name text c = is_tag_end c && ends_closing name text

-- the text followed by the character ends in a closing tag, which begins at that byte and is exact
-- or not
pub record EndsAt (name text : List ℕ) (c : ℕ) (end : ℕ × Bool) : Type 0 where
  pub tag_end : is_tag_end c ≡ true
  pub ends : ends_closing name (chars text) ≡ true
  pub exact : end.1 ≡ ends_exact name (chars text)
  pub boundary : IsCharBoundary text end.0
  pub before : chars (take end.0 text) ≡ before_closing name (chars text)

-- the text ends in the word, which has no capitals, in any ASCII case
abbrev pub ends_in : (word text : List ℕ) → Bool
ends_in word text =
    bytes_eq (map to_ascii_lowercase (drop (length text - length word) text)) word
