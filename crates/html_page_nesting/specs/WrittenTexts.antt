-- Texts and their characters.
use Rattle.std.specs.{List.{list_all, list_any}, Prelude.{ℕ, Bool, true, false, not, ◌&&◌, ◌||◌, ◌==◌, List, [], ◌∷◌}}

abbrev pub is_empty : List ℕ → Bool
is_empty [] = true
is_empty (c ∷ cs) = false

-- whether a character is a carriage return, which is read as a line feed (HTML Standard 13.2.3.5)
abbrev pub is_return : ℕ → Bool
is_return c = c == 13

abbrev pub has_return : List ℕ → Bool
has_return = list_any is_return

-- whether a character is a tab, LF, FF, CR or space
abbrev pub is_white_char : ℕ → Bool
is_white_char c = (c == 9) || (c == 10) || (c == 12) || (c == 13) || (c == 32)

abbrev pub is_white : List ℕ → Bool
is_white = list_all is_white_char

-- whether a character is neither `&` nor `<`, so that it is written as it is
abbrev pub is_plain_char : ℕ → Bool
is_plain_char c = not ((c == 38) || (c == 60))

-- whether a text is written as it is; with the flag `pre_span` only an empty one is
abbrev pub is_plain_text : (pre_span : Bool) → List ℕ → Bool
is_plain_text pre_span text = is_empty text || (not pre_span && list_all is_plain_char text)
