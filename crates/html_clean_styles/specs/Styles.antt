-- What stays of the value of a `style` attribute: declarations of listed properties whose values
-- can neither load nor run anything, in one form. The text is cut at each `;`, also in a string or
-- a block, where CSS (CSS Syntax 5.5) would not cut: what stays holds neither quotes nor blocks.
use Rattle.std.specs.{Char.{to_ascii_lowercase}, List.{list_all, slice_split}}
use Rattle.std.specs.Prelude.{◌≡◌, ℕ, ◌+◌, ◌-◌, Bool, true, false, ◌&&◌, ◌||◌, ◌==◌, nat_lt, nat_le, List, [], ◌∷◌, ◌++◌, Option, Some, None, codes, map, option_map, if◌then◌else◌}
use Rattle.html_names_core.specs.Characters.{is_hyphen, is_lower, is_tag_char}
use Rattle.html_names_core.specs.{Names.{stands_in}, Texts.{TextPair}}

-- white space of ASCII: tab, LF, FF, CR, space (Infra Standard 4.6)
unfoldable pub is_space : ℕ → Bool
is_space c = (c == 9) || (c == 10) || (c == 12) || (c == 13) || (c == 32)

-- a character, behind a space if there is a gap before it
unfoldable pub spaced : (gap : Bool) → ℕ → List ℕ
spaced gap c = if gap then 32 ∷ c ∷ [] else c ∷ []

-- the text without white space around it, and each run inside as one space; `begun` tells if there
-- is text before this, and `gap` if white space stands between the two
unfoldable pub squeezed_from : (begun gap : Bool) (text : List ℕ) → List ℕ
squeezed_from begun gap [] = []
squeezed_from begun gap (c ∷ cs) = if is_space c then squeezed_from begun begun cs
    else spaced gap c ++ squeezed_from true false cs

abbrev pub squeezed : List ℕ → List ℕ
squeezed = squeezed_from false false

-- whether a text begins with `small`, in any ASCII case
unfoldable pub begins : (small text : List ℕ) → Bool
begins [] text = true
begins (x ∷ xs) [] = false
begins (x ∷ xs) (c ∷ cs) = (to_ascii_lowercase c == x) && begins xs cs

-- whether a text begins with a call of a function that a value may have
unfoldable pub begins_call : List ℕ → Bool
begins_call text = begins (codes "rgb(") text || begins (codes "rgba(") text
    || begins (codes "hsl(") text || begins (codes "hsla(") text || begins (codes "calc(") text

-- a letter, a digit or `-`
unfoldable pub is_word_char : ℕ → Bool
is_word_char c = is_tag_char c

-- what a value may have besides these and calls: space, `#`, `%`, `,`, `.`
unfoldable pub is_mark : ℕ → Bool
is_mark c = (c == 32) || (c == 35) || (c == 37) || (c == 44) || (c == 46)

-- the number of calls that are open behind a character that is in no word, if it may stand there;
-- `word` is the text from the word before it on
unfoldable pub depth_behind : (c : ℕ) (word : List ℕ) (depth : ℕ) → Option ℕ
depth_behind c word depth = if is_mark c then Some depth
    else (if (c == 40) && begins_call word then Some (depth + 1)
    else (if (c == 41) && nat_lt 0 depth then Some (depth - 1) else None))

-- there is a number, and it passes the test
abbrev pub holds_in : (ℕ → Bool) → Option ℕ → Bool
holds_in p None = false
holds_in p (Some n) = p n

-- whether each character of a text may stand in a value, and the parentheses are those of calls and
-- balanced, with that many calls open before the text
unfoldable pub is_plain_from : (word : List ℕ) (depth : ℕ) (text : List ℕ) → Bool
is_plain_from word depth [] = depth == 0
is_plain_from word depth (c ∷ cs) = if is_word_char c then is_plain_from word depth cs
    else holds_in (λ d. is_plain_from cs d cs) (depth_behind c word depth)

-- whether a value stays
unfoldable pub is_plain : (value : List ℕ) → Bool
is_plain [] = false
is_plain (c ∷ cs) = is_plain_from (c ∷ cs) 0 (c ∷ cs)

-- the text before the first `:` and the text behind it, if there is a `:`
unfoldable pub cut_colon : List ℕ → Option TextPair
cut_colon [] = None
cut_colon (c ∷ cs) = if c == 58 then Some ([], cs)
    else option_map (λ x. (c ∷ x.0, x.1)) (cut_colon cs)

-- a declaration in its one form if it stays, and else nothing
unfoldable pub written : (properties : List (List ℕ)) (name value : List ℕ) → List ℕ
written properties name value =
    if stands_in properties name && is_plain value then name ++ (codes ": " ++ value) else []

-- the same from the text before its `:` and behind it
unfoldable pub declared : (properties : List (List ℕ)) → Option TextPair → List ℕ
declared properties None = []
declared properties (Some x) =
    written properties (map to_ascii_lowercase (squeezed x.0)) (squeezed x.1)

-- what stays of the text between two `;`
abbrev pub declaration : (properties : List (List ℕ)) (piece : List ℕ) → List ℕ
declaration properties piece = declared properties (cut_colon piece)

-- declarations, and others after them
unfoldable pub joined : (first next : List ℕ) → List ℕ
joined [] next = next
joined (c ∷ cs) [] = c ∷ cs
joined (c ∷ cs) (d ∷ ds) = (c ∷ cs) ++ (codes "; " ++ d ∷ ds)

unfoldable pub declarations : (properties pieces : List (List ℕ)) → List ℕ
declarations properties [] = []
declarations properties (p ∷ ps) = joined (declaration properties p) (declarations properties ps)

-- the texts between the `;` of a text
unfoldable pub pieces : List ℕ → List (List ℕ)
pieces text = slice_split (λ c. c == 59) text

-- what stays of the value of a `style` attribute
unfoldable pub clean_style : (properties : List (List ℕ)) (style : List ℕ) → List ℕ
clean_style properties style = declarations properties (pieces style)

-- a small letter or `-`
abbrev pub is_property_char : ℕ → Bool
is_property_char c = is_lower c || is_hyphen c

-- the name of a property: not empty, of small letters and `-`
abbrev pub is_property_name : List ℕ → Bool
is_property_name [] = false
is_property_name (c ∷ cs) = list_all is_property_char (c ∷ cs)

abbrev pub ArePropertyNames : (properties : List (List ℕ)) → Type 0
ArePropertyNames properties = list_all is_property_name properties ≡ true

-- printable ASCII: a text character, and no white space but the space
abbrev pub is_printable : ℕ → Bool
is_printable c = nat_le 32 c && nat_le c 126
