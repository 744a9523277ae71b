-- The locations that a map has for names, by the bytes of their texts.
use Rattle.std.specs.BTreeMap.{BTreeMap, get_by_text}
use Rattle.std.specs.{Prelude.{◌≡◌, ℕ, List, chars, String, bytes_eq, if◌then◌else◌, Option, Some, None, Result, OnOk, OnErr}, Str.{IsUtf8}}
use Rattle.std.specs.declared.alloc.{AllocError.{AllocError}, Global.{Global}}
use Rattle.html_names_core.specs.Names.{stands_in}
use Rattle.html_names_table.specs.NameTables.{IsNumbered}
use Rattle.html_dom_tree.specs.declared.introspection.Location.{Location}
use Rattle.html_flow_places.specs.NamedLocations.{location_in}

-- the location of a name among names, if it is there
abbrev pub location_where : List (List ℕ) → List ℕ → Option Location
location_where names name =
    if stands_in names name then Some (record { 0 = location_in names name }) else None

-- no name is repeated, and each text has the location that it has there
abbrev pub IsLocating : BTreeMap (String Global) Location → List (List ℕ) → Type 0
IsLocating locations names = IsNumbered names × ((text : List ℕ) → IsUtf8 text →
    get_by_text locations text ≡ location_where names (chars text))

-- a call sets the location of a text and leaves all others, or changes none
pub record Puts (result : Result (Unit {0}) AllocError)
    (old new : BTreeMap (String Global) Location) (key : List ℕ) (location : Location) :
    Type 0 where
  pub placed : OnOk result ((text : List ℕ) → get_by_text new text
      ≡ (if bytes_eq key text then Some location else get_by_text old text))
  pub kept : OnErr result ((text : List ℕ) → get_by_text new text ≡ get_by_text old text)
