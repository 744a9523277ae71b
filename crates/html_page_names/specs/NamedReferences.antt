-- Named character references (HTML Standard 13.5).
use Rattle.std.specs.{List.{flat_map}, Option.{option_or}, Prelude.{ℕ, List, ◌∷◌, Option, option_map, option_to_list}}
use Rattle.html_page_names.specs.{ReferenceRow.{Row, value_in}, ReferenceRows.{legacy_groups, other_groups}}

-- the characters for the name in a table
unfoldable pub value_in_groups : List (List Row) → (name : List ℕ) → Option (List ℕ)
value_in_groups groups = value_in (flat_map (λ rows. rows) groups)

-- the characters for a name that may stand without a `;` behind it
unfoldable pub legacy_reference : (name : List ℕ) → Option (List ℕ)
legacy_reference name = value_in_groups legacy_groups name

-- the characters for a name, without its `&` and `;`
unfoldable pub named_reference : (name : List ℕ) → Option (List ℕ)
named_reference name = option_or (legacy_reference name) (value_in_groups other_groups name)

-- the one or two characters found, as a list
abbrev pub found_chars : Option (ℕ × Option ℕ) → Option (List ℕ)
found_chars = option_map (λ found. found.0 ∷ option_to_list found.1)
