-- The schemes of URLs (URL Standard 4.4, "scheme start state" and "scheme state"), and which URLs
-- are allowed.
use Rattle.std.specs.Char.{is_ascii_alphabetic, is_ascii_alphanumeric, to_ascii_lowercase}
use Rattle.std.specs.{List.{list_all}, Prelude.{ℕ, Bool, ◌||◌, ◌==◌, List, [], ◌∷◌, if◌then◌else◌, option_map, Option, Some, None}}
use Rattle.html_names_core.specs.Names.{stands_in}
use Rattle.html_links.specs.Scripts.{url_begin}
use Rattle.html_clean_values.specs.{Srcsets.{srcset_urls}, Words.{words}}

-- an ASCII letter, a digit, `+`, `-` or `.`
abbrev pub is_scheme_char : ℕ → Bool
is_scheme_char c = is_ascii_alphanumeric c || (c == 43) || (c == 45) || (c == 46)

-- a scheme behind one more character
abbrev pub with_letter : ℕ → Option (List ℕ) → Option (List ℕ)
with_letter c = option_map (λ s. to_ascii_lowercase c ∷ s)

-- the characters before `:`, in small letters
abbrev pub scheme_rest : List ℕ → Option (List ℕ)
scheme_rest [] = None
scheme_rest (c ∷ cs) =
    if c == 58 then Some []
    else (if is_scheme_char c then with_letter c (scheme_rest cs) else None)

-- a scheme begins with a letter
abbrev pub scheme_at : List ℕ → Option (List ℕ)
scheme_at [] = None
scheme_at (c ∷ cs) = if is_ascii_alphabetic c then scheme_rest (c ∷ cs) else None

-- the scheme of a URL, in small letters, if it has one: controls and spaces before it don't count,
-- nor do tabs, line feeds and carriage returns
unfoldable pub url_scheme : (url : List ℕ) → Option (List ℕ)
url_scheme url = scheme_at (url_begin url)

abbrev pub scheme_is_allowed :
    (schemes : List (List ℕ)) (relative : Bool) → (scheme : Option (List ℕ)) → Bool
scheme_is_allowed schemes relative None = relative
scheme_is_allowed schemes relative (Some scheme) = stands_in schemes scheme

-- whether a URL has one of these schemes, or none where `relative`
unfoldable pub url_is_allowed :
    (schemes : List (List ℕ)) (relative : Bool) (url : List ℕ) → Bool
url_is_allowed schemes relative url = scheme_is_allowed schemes relative (url_scheme url)

-- whether each URL of a text is allowed, where white space separates them
unfoldable pub urls_are_allowed :
    (schemes : List (List ℕ)) (relative : Bool) (text : List ℕ) → Bool
urls_are_allowed schemes relative text = list_all (url_is_allowed schemes relative) (words text)

-- whether the URL of each image candidate of a `srcset` is allowed
unfoldable pub srcset_is_allowed :
    (schemes : List (List ℕ)) (relative : Bool) (srcset : List ℕ) → Bool
srcset_is_allowed schemes relative srcset =
    list_all (url_is_allowed schemes relative) (srcset_urls srcset)
