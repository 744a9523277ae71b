-- The schemes of URLs by tests alone.
use Rattle.std.specs.{Char.{to_ascii_lowercase}, List.{filter}}
use Rattle.std.specs.Prelude.{◌≡◌, ℕ, ◌<◌, Bool, false, ◌&&◌, ◌||◌, ◌==◌, List, [], ◌∷◌, length}
use Rattle.html_links.specs.Indicated.{is_kept}
use Rattle.html_clean_values.specs.Urls.{is_scheme_char}

-- of the characters that a URL keeps, the first is that one, and the others are those of the rest
pub record BeginsKept (text : List ℕ) (c : ℕ) (rest : List ℕ) : Type 0 where
  pub kept : filter is_kept text ≡ c ∷ filter is_kept rest
  pub shorter : length rest < length text

abbrev pub begins_with : (is : ℕ → Bool) → List ℕ → Bool
begins_with is [] = false
begins_with is (c ∷ cs) = is c

abbrev pub is_colon : ℕ → Bool
is_colon c = c == 58

-- whether a character of a URL is that character of a scheme
abbrev pub is_letter_of : (x c : ℕ) → Bool
is_letter_of x c = is_scheme_char c && (x == to_ascii_lowercase c)

-- whether the text is that scheme, in any ASCII case, and then a colon and any characters
unfoldable pub scheme_rest_is : (scheme text : List ℕ) → Bool
scheme_rest_is [] text = begins_with is_colon text
scheme_rest_is (x ∷ xs) [] = false
scheme_rest_is (x ∷ xs) (c ∷ cs) = is_letter_of x c && scheme_rest_is xs cs

-- whether the text is one of the schemes, and then a colon and any characters
unfoldable pub one_is_scheme : (schemes : List (List ℕ)) (text : List ℕ) → Bool
one_is_scheme [] text = false
one_is_scheme (s ∷ ss) text = scheme_rest_is s text || one_is_scheme ss text
