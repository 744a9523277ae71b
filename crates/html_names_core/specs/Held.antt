-- The representation of a name: its index in the table of known names, or its text.
use Rattle.std.specs.Prelude.{◌≡◌, ℕ, ◌<◌, Bool, false, List, [], chars, string_bytes, slice_index_or, bytes_eq, ◌==◌, Option, Some, None}
use Rattle.html_names_core.specs.{Characters.{IsOf}, Names.{stands_in, IsPlace}, declared.name.Name.{Name}}
use Rattle.html_names_core.specs.declared.name.Name.TheVariants.{Known, Own}

-- the name's characters
abbrev pub held_text : List (List ℕ) → Name → List ℕ
held_text table (Known n) = slice_index_or table n []
held_text table (Own s) = chars (string_bytes s)

-- a name is an index below `count`, or a text of valid characters that is not in the table
abbrev pub IsHeld : (count : ℕ) (table : List (List ℕ)) (is_valid : ℕ → Bool) → Name → Type 0
IsHeld count table is_valid (Known n) = n < count
IsHeld count table is_valid (Own s) =
    IsOf is_valid (chars (string_bytes s)) × (stands_in table (chars (string_bytes s)) ≡ false)

-- the result of a lookup: the index of the text if the table contains it
abbrev pub IsLookup : (table : List (List ℕ)) (text : List ℕ) → Option ℕ → Type 0
IsLookup table text (Some n) = IsPlace table text n
IsLookup table text None = stands_in table text ≡ false

-- the name that is made from a lookup: the index if there is one, otherwise the text
abbrev pub IsMade : Option ℕ → (text : List ℕ) → Name → Type 0
IsMade (Some m) text (Known n) = n ≡ m
IsMade (Some m) text (Own s) = ⊥
IsMade None text (Known n) = ⊥
IsMade None text (Own s) = chars (string_bytes s) ≡ text

-- a name that is an index is within a table of that length
abbrev pub IsWithin : ℕ → Name → Type 0
IsWithin count (Known n) = n < count
IsWithin count (Own s) = Unit {0}

-- whether two names have the same index, or equal texts
abbrev pub same_held : Name → Name → Bool
same_held (Known m) (Known n) = m == n
same_held (Own s) (Own t) = bytes_eq (string_bytes s) (string_bytes t)
same_held (Known m) (Own t) = false
same_held (Own s) (Known n) = false

abbrev pub IsOwn : Name → Type 0
IsOwn (Known n) = ⊥
IsOwn (Own s) = Unit {0}

-- one is a copy of the other
abbrev pub IsCopy : Name → Name → Type 0
IsCopy (Known m) (Known n) = m ≡ n
IsCopy (Own s) (Own t) = string_bytes s ≡ string_bytes t
IsCopy (Known m) (Own t) = ⊥
IsCopy (Own s) (Known n) = ⊥
