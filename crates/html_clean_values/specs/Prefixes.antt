-- Prefixes of ids and names, so that those of a foreign text differ from those of the page that it
-- comes into.
use Rattle.std.specs.{List.{starts_with}, Prelude.{ℕ, ◌==◌, List, [], ◌∷◌, ◌++◌, map, if◌then◌else◌}}
use Rattle.html_clean_values.specs.Words.{joined, words}

-- the text with the prefix, unless it begins with it
unfoldable pub prefixed : (prefix text : List ℕ) → List ℕ
prefixed prefix text = if starts_with ◌==◌ text prefix then text else prefix ++ text

-- an empty name stays empty
abbrev pub prefixed_name : (prefix name : List ℕ) → List ℕ
prefixed_name prefix [] = []
prefixed_name prefix (c ∷ cs) = prefixed prefix (c ∷ cs)

-- each word of the text with the prefix, and one space between each two
unfoldable pub prefixed_words : (prefix text : List ℕ) → List ℕ
prefixed_words prefix text = joined (map (prefixed prefix) (words text))

-- an `href` that is a fragment alone, with the prefix behind its `#`; `#` alone and other URLs stay
abbrev pub prefixed_href : (prefix href : List ℕ) → List ℕ
prefixed_href prefix [] = []
prefixed_href prefix (c ∷ cs) = if c == 35 then c ∷ prefixed_name prefix cs else c ∷ cs
