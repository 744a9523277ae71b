-- The spellings of a name behind the `#` of an `href` (URL Standard 1.3: percent-encoding), and the
-- one that is chosen (this project's rule).
use Rattle.std.specs.List.{flat_map, list_any}
use Rattle.std.specs.Prelude.{ℕ, Bool, true, not, ◌||◌, ◌==◌, nat_lt, List, [], ◌∷◌, ◌++◌, Option, Some, None, option_map, codes, if◌then◌else◌}
use lib.Utf8.{encodes}
use Rattle.percent_encoding.specs.Percent.{percent_encode_byte}
use Rattle.html_links.specs.{Directives.{has_directive}, TreeNames.{Name}}

-- the fragment percent-encode set, of bytes as of characters: controls and the space, `"`, `<`,
-- `>`, the backquote, and all from U+007F on
abbrev pub is_in_fragment_set : ℕ → Bool
is_in_fragment_set c =
    nat_lt 126 c || nat_lt c 33 || (c == 34) || (c == 60) || (c == 62) || (c == 96)

-- the fragment percent-encode set and `%`, so that decoding restores the text
abbrev pub is_in_name_set : (byte : ℕ) → Bool
is_in_name_set b = (b == 37) || is_in_fragment_set b

-- the same and `:`, so that no directive is left
abbrev pub is_in_colon_set : (byte : ℕ) → Bool
is_in_colon_set b = (b == 58) || is_in_name_set b

abbrev pub is_any : (byte : ℕ) → Bool
is_any b = true

abbrev pub byte_encoding : (is_in : ℕ → Bool) → (byte : ℕ) → List ℕ
byte_encoding is_in b = if is_in b then percent_encode_byte b else b ∷ []

-- the UTF-8 of a text, each byte of a set as `%` and two hexadecimal digits
unfoldable pub encoding : (is_in : ℕ → Bool) → (text : List ℕ) → List ℕ
encoding is_in text = flat_map (byte_encoding is_in) (encodes text)

-- whether a browser leaves a name as it is: it has no character of the fragment set, and no
-- directive
abbrev pub is_left : Name → Bool
is_left name = not (list_any is_in_fragment_set name || has_directive name)

-- the plainest encoding whose decoding is the name: `:` is encoded only where else a directive would
-- be left
unfoldable pub name_encoding : Name → List ℕ
name_encoding name = let plain = encoding is_in_name_set name in
    if has_directive plain then encoding is_in_colon_set name else plain

-- the plainest spelling
unfoldable pub plain_spelling : Name → List ℕ
plain_spelling name = if is_left name then name else name_encoding name

-- the spelling, unless a place has it as its name, or else another
abbrev pub unless_place :
    (is_place : Name → Bool) → (spelling : List ℕ) → (other : Option (List ℕ)) → Option (List ℕ)
unless_place is_place spelling other = if is_place spelling then other else Some spelling

-- the spelling that leads to a name, given the names of places: the name, if it is left as it is;
-- else the plainest encoding that no place has as its name, of the two whose decoding is the name
unfoldable pub leading_spelling : (is_place : Name → Bool) → Name → Option (List ℕ)
leading_spelling is_place name = if is_left name then Some name
    else unless_place is_place (name_encoding name)
    (unless_place is_place (encoding is_any name) None)

abbrev pub href_with : (fragment : List ℕ) → List ℕ
href_with fragment = codes "#" ++ fragment

-- the `href` that leads to a name unless a place has another spelling of it as its own name
abbrev pub href_to : Name → List ℕ
href_to name = href_with (plain_spelling name)

-- the `href` that leads to a name, given the names of places, if one does
abbrev pub leading_href : (is_place : Name → Bool) → Option Name → Option (List ℕ)
leading_href is_place None = None
leading_href is_place (Some name) = option_map href_with (leading_spelling is_place name)

-- the name, unless it is empty: nothing leads to an empty name
abbrev pub some_name : Option (List ℕ) → Option (List ℕ)
some_name None = None
some_name (Some []) = None
some_name (Some (c ∷ cs)) = Some (c ∷ cs)
