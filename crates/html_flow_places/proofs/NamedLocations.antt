-- Locations of names, over lists of texts.
use Rattle.std.proofs.Common.{◌≡◌, ℕ, suc, ◌+◌, ◌-◌, ◌<◌, ◌≤◌, List, [], ◌∷◌, ◌++◌, refl, sym, ap, ◌∙◌, chars, length, length-append, get_or, arith, false, Some, add-one, Option, option_map, string_bytes, String, Global}
use Rattle.std.proofs.lemmas.{Bool.{eq-eqb}, List.{length-map, map-append}, Option.{slice_get-get_or, slice_get-map, slice_get_read}}
use Rattle.html_names_core.specs.{Names.{stands_in}, Texts.{text_view, texts_view}}
use Rattle.html_names_table.proofs.NameTables.{equal_numbers, name_at-added, number_below, number_in-added, number_later, number_next, stands_in-both, stands_in-added, added_again}
use Rattle.html_names_table.specs.NameTables.{number_in, with_name}
use Rattle.html_flow_places.specs.NamedLocations.{location_in, name_of}

pub equal_locations : (names : List (List ℕ)) (a b : List ℕ) →
    (location_in names a ≡ location_in (with_name names a) b → a ≡ b)
    × (a ≡ b → location_in names a ≡ location_in (with_name names a) b)
equal_locations names a b =
    let both = equal_numbers names a b in
    (λ e. both.0 (omega (arith, e)), λ e. ap (λ n. n + 1) (both.1 e))

pub location_later : (names : List (List ℕ)) (name other : List ℕ) →
    location_in (with_name (with_name names name) other) name ≡ location_in names name
location_later names name other = ap (λ n. n + 1) (number_later names name other)

-- for a location that is asked for twice
pub ruleset stays = (location_later, stands_in-both, added_again, eq-eqb)

-- the name that is held for a location
pub name_held : (items : List (String Global)) (names : List (List ℕ)) (s : String Global)
    (location number : ℕ) → texts_view items ≡ names → 1 ≤ location → number ≡ location - 1 →
    number < length items → s ≡ get_or items number s → Some (text_view s) ≡ name_of names location
name_held items names s location number were some at below is =
    let after : location ≡ suc number = omega (arith, some, at) in
    rw (after, sym were, slice_get-map text_view items number) (sym (ap (option_map text_view)
    (slice_get_read items (length items) number s refl below is)))

pub name_of-added : (names : List (List ℕ)) (name : List ℕ) →
    name_of (with_name names name) (location_in names name) ≡ Some name
name_of-added names name =
    let grown : List (List ℕ) = with_name names name in
    let below : number_in names name < length grown =
    rw (sym (number_in-added names name)) (number_below grown name (stands_in-added names name)) in
    rw (add-one (number_in names name)) (slice_get-get_or grown (number_in names name) [] below
    ∙ ap Some (name_at-added names name))

-- the name at the location of a name
pub added_there : (names after : List (List ℕ)) (name : List ℕ) (location : ℕ)
    (there : Option (List ℕ)) → there ≡ name_of after location →
    location ≡ location_in names name → after ≡ with_name names name → there ≡ Some name
added_there names after name location there e at grown =
    e ∙ rw (at, grown) (name_of-added names name)

-- one more name, and its location
pub added_names : (items after : List (String Global)) (s : String Global) (names : List (List ℕ))
    (key : List ℕ) → texts_view items ≡ names → string_bytes s ≡ key → after ≡ items ++ s ∷ [] →
    texts_view after ≡ names ++ chars key ∷ []
added_names items after s names key were is added =
    rw (added, map-append text_view items (s ∷ []), were, is) refl

pub last_location : (items after : List (String Global)) (s : String Global)
    (names : List (List ℕ)) (name : List ℕ) → texts_view items ≡ names → after ≡ items ++ s ∷ [] →
    stands_in names name ≡ false → length after ≡ location_in names name
last_location items after s names name were added new =
    rw (
      added,
      length-append items (s ∷ []),
      number_next names name new,
      sym were,
      length-map items text_view,
    ) refl
