-- What a JSON value spells, or the place where it leaves the form: how many lists of nodes or items
-- are opened up to the first value that does not fit the form.
use Rattle.std.specs.Prelude.{◌≡◌, ℕ, Option, Some, None, Result, Ok, Err}
use Rattle.typst_html_json.specs.declared.fault.{InputPlace.{InputPlace}, InputPlace.TheVariants.{Unknown, Text, Form}}

-- what a value spells, or the place where it leaves the form
abbrev pub Left : Type 0 → Type 0
Left A = Result A ℕ

abbrev pub mapped : {A B : Type 0} → (A → B) → Left A → Left B
mapped f (Ok a) = Ok (f a)
mapped f (Err n) = Err n

-- what is made of what a value spells, or the place where the value leaves the form
abbrev pub and_then : {A B : Type 0} → (A → Left B) → Left A → Left B
and_then f (Ok a) = f a
and_then f (Err n) = Err n

-- what is made of a part that has no place of its own; without the part, the value leaves the form
-- at n
abbrev pub from_part : {A B : Type 0} → (n : ℕ) → (A → Left B) → Option A → Left B
from_part n f (Some a) = f a
from_part n f None = Err n

-- the value leaves the form at that place
abbrev pub IsLeft : {A : Type 0} → Left A → InputPlace → Type 0
IsLeft wanted Unknown = ⊥
IsLeft wanted (Text line column) = ⊥
IsLeft wanted (Form n) = wanted ≡ Err n
