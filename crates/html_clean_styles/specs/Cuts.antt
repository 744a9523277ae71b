-- Texts that are cut at a character.
use Rattle.std.specs.{Borrow.{Bor}, Prelude.{◌≡◌, ℕ, ◌==◌, List, ◌∷◌, ◌++◌, Option, Some, None, chars}, Str.{NonePass}}
use Rattle.html_names_core.specs.Texts.{TextPair}

-- the text has no such character, or it is a text that has none, the character, and another text
abbrev pub IsCut : (mark : ℕ) (text : List ℕ) → Option (Bor (List ℕ) × Bor (List ℕ)) → Type 0
IsCut mark text None = NonePass (λ c. c == mark) text
IsCut mark text (Some x) = (text ≡ chars x.0.now ++ mark ∷ chars x.1.now)
    × NonePass (λ c. c == mark) (chars x.0.now)

-- the characters of two texts
abbrev pub pair_view : Bor (List ℕ) × Bor (List ℕ) → TextPair
pair_view x = (chars x.0.now, chars x.1.now)
