-- What a reader of a JSON value remembers.
use Rattle.std.specs.Prelude.{ℕ, ◌+◌, Bool, true, false, List, [], ◌∷◌}

-- what a reader remembers: how many lists of nodes or items were opened, the names of places in the
-- order of their locations, and whether there was a tag whose location is a number
pub record Mark : Type 0 where
  pub lists : ℕ
  pub names : List (List ℕ)
  pub numbered : Bool

-- the state before anything was read
abbrev pub at_start : Mark
at_start = record { lists = 0; names = []; numbered = false }

-- the state with one more list opened
abbrev pub opened : Mark → Mark
opened m = record m { lists = m.lists + 1 }

abbrev pub are_there : List (List ℕ) → Bool
are_there [] = false
are_there (name ∷ names) = true
