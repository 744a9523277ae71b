-- Tags in the tree and in frames, as pure values.
use Rattle.std.specs.Prelude.{ℕ, List, Option}

-- the start or the end of a located element
pub data TagView : Type 0 where
  starts : (location : ℕ) (label : Option (List ℕ)) (dest : Option ℕ) → TagView
  ends : (location : ℕ) → TagView
  deriving Discrete as TagView-discrete
