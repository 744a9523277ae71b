-- The URLs of the image candidates of a `srcset` (HTML Standard 4.8.4.3, "parse a srcset
-- attribute").
use Rattle.std.specs.Char.{is_ascii_whitespace}
use Rattle.std.specs.Prelude.{◌≡◌, ℕ, ◌<◌, length, Bool, true, false, not, ◌||◌, ◌&&◌, ◌==◌, List, [], ◌∷◌, ◌++◌, if◌then◌else◌}
use Rattle.html_names_core.specs.Characters.{all}

-- where a character stands
pub data Position : Type 0 where
  -- between candidates
  Between : Position
  -- in a URL, behind these characters
  Url : (so_far : List ℕ) → Position
  -- in or between descriptors
  Descriptors : Position
  -- in parentheses of a descriptor
  Parentheses : Position

abbrev pub is_comma : ℕ → Bool
is_comma c = c == 44

-- white space or a comma
abbrev pub is_separator : ℕ → Bool
is_separator c = is_ascii_whitespace c || is_comma c

-- the text without the commas at its end
abbrev pub without_commas : List ℕ → List ℕ
without_commas [] = []
without_commas (c ∷ cs) = if all is_comma (c ∷ cs) then [] else c ∷ without_commas cs

abbrev pub ends_in_comma : List ℕ → Bool
ends_in_comma [] = false
ends_in_comma (c ∷ []) = is_comma c
ends_in_comma (c ∷ d ∷ cs) = ends_in_comma (d ∷ cs)

-- a URL that ends in a comma ends its candidate
abbrev pub behind_url : (url : List ℕ) → Position
behind_url url = if ends_in_comma url then Between else Descriptors

unfoldable pub urls_from : Position → List ℕ → List (List ℕ)
urls_from Between [] = []
urls_from (Url so_far) [] = without_commas so_far ∷ []
urls_from Descriptors [] = []
urls_from Parentheses [] = []
urls_from Between (c ∷ cs) =
    if is_separator c then urls_from Between cs else urls_from (Url (c ∷ [])) cs
urls_from (Url so_far) (c ∷ cs) =
    if is_ascii_whitespace c then without_commas so_far ∷ urls_from (behind_url so_far) cs
    else urls_from (Url (so_far ++ c ∷ [])) cs
urls_from Descriptors (c ∷ cs) =
    if is_comma c then urls_from Between cs
    else (if c == 40 then urls_from Parentheses cs else urls_from Descriptors cs)
urls_from Parentheses (c ∷ cs) =
    if c == 41 then urls_from Descriptors cs else urls_from Parentheses cs

abbrev pub srcset_urls : (srcset : List ℕ) → List (List ℕ)
srcset_urls = urls_from Between

-- the first candidate's URL is that one without the commas at its end, and the others are those of
-- the rest
pub record TakesUrl (srcset url rest : List ℕ) : Type 0 where
  pub urls : urls_from Between srcset ≡ without_commas url ∷ urls_from (behind_url url) rest
  pub shorter : length rest < length srcset

-- whether a character among descriptors ends their candidate
abbrev pub ends_candidate : (in_parentheses : Bool) → ℕ → Bool
ends_candidate in_parentheses c = not in_parentheses && is_comma c

-- whether the next character stands in parentheses of a descriptor
abbrev pub behind_char : (in_parentheses : Bool) → ℕ → Bool
behind_char in_parentheses c = if c == 40 then true else (if c == 41 then false else in_parentheses)
