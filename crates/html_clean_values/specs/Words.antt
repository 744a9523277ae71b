-- The words of a text, which ASCII white space separates (Infra Standard 4.7, "split on ASCII
-- whitespace").
use Rattle.std.specs.{Char.{is_ascii_whitespace}, List.{filter, join_with_byte, slice_split}}
use Rattle.std.specs.Prelude.{◌≡◌, ℕ, ◌<◌, Bool, true, false, List, [], ◌∷◌, length}

abbrev pub is_some_word : List ℕ → Bool
is_some_word [] = false
is_some_word (c ∷ cs) = true

unfoldable pub words : List ℕ → List (List ℕ)
words text = filter is_some_word (slice_split is_ascii_whitespace text)

-- the words with one space between each two
abbrev pub joined : List (List ℕ) → List ℕ
joined = join_with_byte 32

-- the text's first word is that one, and the others are those of the rest
pub record TakesWord (text word rest : List ℕ) : Type 0 where
  pub words : words text ≡ word ∷ words rest
  pub shorter : length rest < length text
