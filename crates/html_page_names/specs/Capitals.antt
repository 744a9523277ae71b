-- Tables of names that have capitals, which restore them to a name in lowercase.
use Rattle.std.specs.{Borrow.{Bor}, List.{list_all}, Prelude.{◌≡◌, ℕ, Bool, true, false, ◌&&◌, List, [], ◌∷◌, Option, Some, None}}
use Rattle.html_names_core.specs.{Characters.{all, is_tag_char, is_attr_char}, Names.{is_ascii}}
use Rattle.html_page_names.specs.ForeignNames.{with_capitals}

-- whether a text may be the name of a tag and of an attribute
abbrev pub is_name : List ℕ → Bool
is_name [] = false
is_name (c ∷ cs) = all is_tag_char (c ∷ cs) && all is_attr_char (c ∷ cs) && is_ascii (c ∷ cs)

abbrev pub are_names : List (List ℕ) → Bool
are_names = list_all is_name

-- the result of looking up a name in lowercase: the name of the list that has capitals, or none if
-- the name stays as it is
abbrev pub IsWithCapitals : (names : List (List ℕ)) → (name : List ℕ) → Option (Bor (List ℕ)) →
    Type 0
IsWithCapitals names name (Some found) =
    (found.now ≡ with_capitals names name) × (is_name found.now ≡ true)
IsWithCapitals names name None = with_capitals names name ≡ name
