-- Words, and texts that they begin with.
use Rattle.std.specs.{List.{starts_with}, Prelude.{ℕ, Bool, ◌==◌, List}}

-- the word begins with these characters
abbrev pub begins : (word : List ℕ) → List ℕ → Bool
begins word cs = starts_with ◌==◌ word cs
