-- The effect of a call on a receiver that makes a value of the items that it takes.
use Rattle.std.specs.Prelude.{◌≡◌, List, ◌++◌}

-- the effect of taking these items: what is made of any rest after it is what was made of these
-- items and that rest before it
abbrev pub Takes : {A Made : Type 0} → (before after : List A → Made) → List A → Type 0
Takes {A} before after items = (rest : List A) → after rest ≡ before (items ++ rest)
