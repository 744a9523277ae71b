-- Tables of named character references, as they are stored.
use Rattle.std.specs.{Borrow.{Bor}, List.{list_all}}
use Rattle.std.specs.Prelude.{ℕ, suc, Bool, true, false, ◌&&◌, ◌==◌, nat_le, List, [], ◌∷◌, take, drop, length, option_to_list}
use Rattle.html_names_core.specs.Names.{is_ascii}
use Rattle.html_page_names.specs.{ReferenceRow.{Row}, declared.reference_rows.Reference.{Reference}}

-- the rows of names that are joined in one text
abbrev pub rows_view : (names : List ℕ) → List Reference → List Row
rows_view names [] = []
rows_view names (r ∷ rs) =
    (take r.name_length names, r.first ∷ option_to_list r.second)
    ∷ rows_view (drop r.name_length names) rs

-- whether the names have the lengths that the references state
abbrev pub are_as_long : (names : List ℕ) → List Reference → Bool
are_as_long names [] = true
are_as_long names (r ∷ rs) =
    nat_le r.name_length (length names) && are_as_long (drop r.name_length names) rs

abbrev pub groups_view : List (Bor (List ℕ)) → List (Bor (List Reference)) → List (List Row)
groups_view [] groups = []
groups_view (names ∷ texts) [] = []
groups_view (names ∷ texts) (references ∷ groups) =
    rows_view names.now references.now ∷ groups_view texts groups

abbrev pub all_as_long : List (Bor (List ℕ)) → List (Bor (List Reference)) → Bool
all_as_long [] groups = true
all_as_long (names ∷ texts) [] = true
all_as_long (names ∷ texts) (references ∷ groups) =
    are_as_long names.now references.now && all_as_long texts groups

abbrev pub begins_with : (letter : ℕ) (name : List ℕ) → Bool
begins_with letter [] = false
begins_with letter (c ∷ cs) = c == letter

-- whether all names are ASCII, those of the first group begin with that letter, and those of each
-- other group with the next one
abbrev pub are_grouped : (letter : ℕ) → List (List Row) → Bool
are_grouped letter [] = true
are_grouped letter (rows ∷ groups) =
    list_all (λ r. begins_with letter r.0 && is_ascii r.0) rows && are_grouped (suc letter) groups
