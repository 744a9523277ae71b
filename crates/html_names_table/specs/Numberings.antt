-- Numbers of names by their representation, and when they are the numbers in a list of names.
use Rattle.std.specs.Prelude.{◌≡◌, ℕ, ◌<◌, ◌==◌, List, [], length, slice_index_or, if◌then◌else◌, Option, Some, None, Result, OnOk, OnErr}
use Rattle.std.specs.declared.alloc.AllocError.{AllocError}
use Rattle.html_names_table.specs.{NameTables.{number_where, IsNumbered}, OwnNumbers.{IsOwnNumbering}}
use Rattle.html_names_table.specs.declared.name_table.own_numbers.OwnNumbers.{OwnNumbers}

-- the number of the known name with that index, if it has one
abbrev pub known_number : List (Option ℕ) → ℕ → Option ℕ
known_number known place = slice_index_or known place None

-- a call sets the number of a known name and no other; if it fails, it changes none
pub record PutsKnown (result : Result (Unit {0}) AllocError) (old new : List (Option ℕ))
    (place number : ℕ) : Type 0 where
  pub placed : OnOk result ((other : ℕ) → known_number new other
      ≡ (if place == other then Some number else known_number old other))
  pub kept : OnErr result ((other : ℕ) → known_number new other ≡ known_number old other)

-- each of a table of known names has the number of its text among the names
abbrev pub IsKnownNumbering : (table : List (List ℕ)) → List (Option ℕ) → List (List ℕ) → Type 0
IsKnownNumbering table known names = (place : ℕ) → place < length table →
    known_number known place ≡ number_where names (slice_index_or table place [])

-- no two of the names are equal, and each name has its number among them
abbrev pub IsNumbering : (table : List (List ℕ)) → List (Option ℕ) → OwnNumbers →
    List (List ℕ) → Type 0
IsNumbering table known own names = IsNumbered names
    × IsKnownNumbering table known names × IsOwnNumbering table own names
