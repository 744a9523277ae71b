-- The index in a table of the first name with each first letter: 27 indices, the last of them the
-- end of the names that begin with `z`.
use Rattle.std.specs.List.{list_all}
use Rattle.std.specs.Prelude.{ℕ, suc, Bool, true, false, ◌&&◌, ◌+◌, ◌-◌, nat_le, nat_lt, length, List, [], ◌∷◌, slice_index_or}
use Rattle.html_names_core.specs.Characters.{is_lower}

-- whether the name begins with a lowercase letter, and its index is one of that letter's
abbrev pub is_started : (starts : List ℕ) (place : ℕ) (name : List ℕ) → Bool
is_started starts place [] = false
is_started starts place (c ∷ cs) =
    is_lower c && nat_le (slice_index_or starts (c - 97) 0) place
    && nat_lt place (slice_index_or starts (c - 97 + 1) 0)

abbrev pub all_started : (starts : List ℕ) (place : ℕ) (names : List (List ℕ)) → Bool
all_started starts place [] = true
all_started starts place (n ∷ ns) =
    is_started starts place n && all_started starts (suc place) ns

-- whether each name of the table has an index of its first letter, and no start is beyond the
-- table's end
abbrev pub are_starts : (starts : List ℕ) (names : List (List ℕ)) → Bool
are_starts starts names =
    list_all (λ s. nat_le s (length names)) starts && all_started starts 0 names
