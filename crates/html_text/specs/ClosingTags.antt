-- Where the text of a raw element ends: before the first `</`, the name in any ASCII case, and an
-- ending character (HTML Standard 13.1.2.6).
use Rattle.std.specs.Char.{to_ascii_lowercase}
use Rattle.std.specs.Prelude.{ℕ, ◌-◌, Bool, false, ◌||◌, ◌&&◌, ◌==◌, List, [], ◌∷◌, ◌++◌, codes, bytes_eq, take, drop, length, map}

-- tab, LF, FF, CR, space, `>`, `/`
unfoldable pub is_tag_end : ℕ → Bool
is_tag_end c = (c == 9) || (c == 10) || (c == 12) || (c == 13) || (c == 32) || (c == 62) ||
    (c == 47)

-- `</` and the name, in small letters
abbrev pub closing : List ℕ → List ℕ
closing name = codes "</" ++ map to_ascii_lowercase name

-- the text begins with these characters, in any ASCII case, and then an ending character
abbrev pub begins_closing : (closing text : List ℕ) → Bool
begins_closing [] [] = false
begins_closing [] (c ∷ cs) = is_tag_end c
begins_closing (x ∷ xs) [] = false
begins_closing (x ∷ xs) (c ∷ cs) = (to_ascii_lowercase c == x) && begins_closing xs cs

-- the text does so at some position
abbrev pub has_closing : (closing text : List ℕ) → Bool
has_closing closing [] = false
has_closing closing (c ∷ cs) = begins_closing closing (c ∷ cs) || has_closing closing cs

-- the text holds a closing tag of that name
abbrev pub holds_closing : (name text : List ℕ) → Bool
holds_closing name = has_closing (closing name)

-- the text ends in a closing tag of that name without its last character
abbrev pub ends_closing : List ℕ → List ℕ → Bool
ends_closing name text = bytes_eq (map to_ascii_lowercase
    (drop (length text - length (closing name)) text)) (closing name)

-- the closing tag that the text ends in is exact
abbrev pub ends_exact : List ℕ → List ℕ → Bool
ends_exact name text = bytes_eq (drop (length text - length (closing name)) text)
    (codes "</" ++ name)

abbrev pub before_closing : List ℕ → List ℕ → List ℕ
before_closing name text = take (length text - length (closing name)) text
