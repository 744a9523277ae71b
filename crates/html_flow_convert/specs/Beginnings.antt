-- Lists that grow by the first of the things to be added.
use Rattle.std.specs.Prelude.{◌≡◌, ℕ, List, ◌++◌, take}

-- a list grows by the first of these, maybe by none or by all
abbrev pub AddsBeginning : {A : Type 0} → (old new added : List A) → Type 0
AddsBeginning old new added = (n : ℕ) × (new ≡ old ++ take n added)
