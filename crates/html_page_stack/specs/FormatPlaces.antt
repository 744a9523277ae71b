-- The index of an entry in a list of active formatting elements whose last entry is last.
use Rattle.std.specs.{List.{remove}, Prelude.{◌≡◌, ℕ, ◌<◌, Bool, List, length, reverse, Option, Some, None}}
use Rattle.html_page_stack.specs.Formats.{Format, without_entry}

-- the entry there is the one to leave out
pub record IsFound (test : Format → Bool) (others : ℕ) (fs : List (Option Format)) (place : ℕ) :
    Type 0 where
  pub within : place < length fs
  pub without : without_entry test others (reverse fs) ≡ reverse (remove fs place)

abbrev pub IsLookup : (test : Format → Bool) (others : ℕ) → List (Option Format) → Option ℕ → Type 0
IsLookup test others fs None = without_entry test others (reverse fs) ≡ reverse fs
IsLookup test others fs (Some place) = IsFound test others fs place
