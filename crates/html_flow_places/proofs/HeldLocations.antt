-- The locations of names as they are held, against the list of the names.
use Rattle.std.proofs.Common.{◌≡◌, ℕ, ◌+◌, Bool, true, false, if◌then◌else◌, List, [], ◌∷◌, ◌++◌, refl, sym, ap, ◌∙◌, chars, length, arith, bytes_eq, length-append, Some, None, string_bytes, String, Global, unwrap_or}
use Rattle.std.proofs.lemmas.Map.Text.{btree_map_updates_text}
use Rattle.std.specs.{BTreeMap.{BTreeMap, get_by_text, UpdatesBy}, Ordering.{nat_cmp}, Str.{IsUtf8}, String.{string_cmp}}
use Rattle.std.specs.Cmp.Lexicographic.{slice_cmp}
use Rattle.html_dom_tree.specs.declared.introspection.Location.{Location}
use Rattle.html_names_core.{proofs.Lists.{bytes_eq-chars}, specs.Names.{stands_in}}
use Rattle.html_names_table.{proofs.NameTables.{added_where, numbered}, specs.NameTables.{number_in}}
use Rattle.html_flow_places.specs.{HeldLocations.{location_where, IsLocating}, NamedLocations.{location_in}}

-- the location for a number
abbrev location_of : ℕ → Location
location_of number = record { 0 = number + 1 }

pub fresh : (locations : BTreeMap (String Global) Location) (names : List (List ℕ)) → names ≡ [] →
    ((text : List ℕ) → get_by_text locations text ≡ None) → IsLocating locations names
unfolding stands_in
fresh locations [] e none = (λ number h. absurd (omega arith), λ text h. none text)
fresh locations (n ∷ ns) e none = cc

-- a new name goes to the end of the list, and gets the next location
pub next : (old new : BTreeMap (String Global) Location) (names after : List (List ℕ))
    (key : List ℕ) (location : Location) → IsUtf8 key → after ≡ names ++ chars key ∷ [] →
    location.0 ≡ length after → IsLocating old names → stands_in names (chars key) ≡ false →
    ((text : List ℕ) → get_by_text new text
    ≡ (if bytes_eq key text then Some location else get_by_text old text)) → IsLocating new after
next old new names after key location valid added last was absent put =
    let long : location.0 ≡ length names + 1 =
    last ∙ rw (added, length-append names (chars key ∷ [])) refl in
    let is : Some location ≡ Some (location_of (length names)) =
    ap (λ l. Some (record { 0 = l })) long in
    rw added (
      numbered names (chars key) was.0 absent,
      λ text utf8. put text
          ∙ rw (is, sym (bytes_eq-chars key text valid utf8), was.1 text utf8)
          (added_where location_of names (chars key) (chars text) _ absent refl),
    )

found_by : (names : List (List ℕ)) (name : List ℕ) (location : Location) (s : Bool) →
    stands_in names name ≡ s →
    Some location ≡ (if s then Some (location_of (number_in names name)) else None) →
    (location.0 ≡ location_in names name) × (stands_in names name ≡ true)
found_by names name location true h e =
    (ap (λ found. (unwrap_or {T = Location} found (record { 0 = 0 })).0) e, h)
found_by names name location false h e = cc

-- a name for which a location is held has it
pub found : (names : List (List ℕ)) (name : List ℕ) (location : Location) →
    Some location ≡ location_where names name →
    (location.0 ≡ location_in names name) × (stands_in names name ≡ true)
found names name location e = found_by names name location (stands_in names name) refl e

-- a text gets a location
pub put_text : (old new : BTreeMap (String Global) Location) (s : String Global) (key : List ℕ)
    (location : Location) → string_bytes s ≡ key →
    UpdatesBy string_cmp (λ k. slice_cmp nat_cmp (string_bytes s) (string_bytes k)) old new
    (Some location) →
    (text : List ℕ) → get_by_text new text
    ≡ (if bytes_eq key text then Some location else get_by_text old text)
put_text old new s key location is updates text =
    rw (sym is) (btree_map_updates_text (string_bytes s) old new (Some location) updates text)
