-- Bytes of markup, by classes, and words of ASCII among them.
use Rattle.std.specs.{Char.{is_ascii_whitespace, to_ascii_lowercase}, List.{prefix_len, take_while}}
use Rattle.std.specs.Prelude.{ℕ, Bool, not, ◌||◌, ◌==◌, nat_le, false, List, [], ◌∷◌, bytes_eq, drop, length, map, take, if◌then◌else◌, Option, Some, None}
use Rattle.html_page_encoding.specs.declared.class.Class.{Class}
use Rattle.html_page_encoding.specs.declared.class.Class.TheVariants as class

abbrev pub has : Class → ℕ → Bool
has class.Control b = nat_le b 32
has class.Space b = is_ascii_whitespace b
has class.Gap b = is_ascii_whitespace b || (b == 47)
has class.Name b = not (is_ascii_whitespace b || (b == 47) || (b == 61) || (b == 62))
has class.Word b = not (is_ascii_whitespace b || (b == 62))
has class.Label b = not (is_ascii_whitespace b || (b == 59))
has (class.Except c) b = not (b == c)

-- the bytes of the class at the front
unfoldable pub front : Class → List ℕ → List ℕ
front of bs = take_while (has of) bs

-- the bytes behind those
unfoldable pub behind : Class → List ℕ → List ℕ
behind of bs = drop (prefix_len (has of) bs) bs

-- whether the first byte is of the class
abbrev pub starts : Class → List ℕ → Bool
starts of [] = false
starts of (b ∷ bs) = has of b

-- whether the bytes are a word in lowercase, in any ASCII case
unfoldable pub is_word : (word : List ℕ) → List ℕ → Bool
is_word word bs = bytes_eq (map to_ascii_lowercase bs) word

-- the bytes behind the word with which these begin, in any ASCII case
unfoldable pub behind_word : (word : List ℕ) → List ℕ → Option (List ℕ)
behind_word word bs =
    if is_word word (take (length word) bs) then Some (drop (length word) bs) else None

-- the bytes behind those with which these begin
unfoldable pub behind_bytes : (bytes : List ℕ) → List ℕ → Option (List ℕ)
behind_bytes bytes bs =
    if bytes_eq (take (length bytes) bs) bytes then Some (drop (length bytes) bs) else None

abbrev pub found_or : (later : Option (List ℕ)) → Option (List ℕ) → Option (List ℕ)
found_or later None = later
found_or later (Some rest) = Some rest

-- the bytes behind the first place where those stand
unfoldable pub behind_first : (bytes : List ℕ) → List ℕ → Option (List ℕ)
behind_first bytes [] = None
behind_first bytes (b ∷ bs) = found_or (behind_first bytes bs) (behind_bytes bytes (b ∷ bs))
