-- Locations for names of places, and the items that stand for places and links. The names are lists
-- of characters, in the order of their locations.
use Rattle.std.specs.Prelude.{◌≡◌, ℕ, zero, suc, ◌+◌, ◌⊎◌, false, List, slice_get, Option, Some, None, Result, IfOk, OnOk, OnErr}
use Rattle.std.specs.declared.alloc.AllocError.{AllocError}
use Rattle.html_names_core.specs.Names.{stands_in}
use Rattle.html_names_table.specs.NameTables.{number_in, with_name}
use Rattle.html_dom_tree.specs.declared.introspection.Location.{Location}
use Rattle.html_flow_convert.specs.Items.{RoleView, ItemView, ElemView, located_item, element_as_item}

-- the location of a name among names: one more than the index of the first that is equal to it, or
-- than their number if none is
abbrev pub location_in : List (List ℕ) → List ℕ → ℕ
location_in names name = number_in names name + 1

-- the name that has that location
abbrev pub name_of : List (List ℕ) → ℕ → Option (List ℕ)
name_of names zero = None
name_of names (suc number) = slice_get names number

-- the items of an element that is the place of a name, which is its label
abbrev pub place_items : List (List ℕ) → List ℕ → ElemView → List (ItemView × RoleView)
place_items names name element =
    located_item (location_in names name) (Some name) None (element_as_item element)

-- the items of an element that is a link to the place of a name. No name has the location 0
abbrev pub link_items : List (List ℕ) → List ℕ → ElemView → List (ItemView × RoleView)
link_items names name element =
    located_item 0 None (Some (location_in names name)) (element_as_item element)

-- a call that requests the location of a name: on success it returns the location, and the names
-- become the old ones with that name; else the name had no location and the names stay
pub record GivesLocation (result : Result Location AllocError) (name : List ℕ)
    (old new : List (List ℕ)) : Type 0 where
  pub location : IfOk result (λ l. l.0 ≡ location_in old name)
  pub names : OnOk result (new ≡ with_name old name)
  pub absent : OnErr result (stands_in old name ≡ false)
  pub kept : OnErr result (new ≡ old)

-- a call that requests the location of a first name and then that of a second: on success both have
-- one; else it stopped at a name that had none, and the names stay, or only the first has got one
pub record LocatesBoth {A : Type 0} (result : Result A AllocError) (first second : List ℕ)
    (old new : List (List ℕ)) : Type 0 where
  pub names : OnOk result (new ≡ with_name (with_name old first) second)
  pub stopped : OnErr result (((stands_in old first ≡ false) × (new ≡ old))
      ⊎ ((stands_in (with_name old first) second ≡ false) × (new ≡ with_name old first)))
