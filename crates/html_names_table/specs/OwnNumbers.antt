-- Numbers of names that are not known, by a slot of their text or in a map, and when they are the
-- numbers in a list of names.
use Rattle.std.specs.{BTreeMap.{get_by_text}, List.{fold}}
use Rattle.std.specs.Prelude.{◌≡◌, ℕ, ◌*◌, ◌-◌, ◌%◌, ◌^◌, ◌≤◌, ◌⊎◌, false, List, chars, bytes_eq, slice_index, length, bit_and, bit_xor, if◌then◌else◌, Some, None, Result, OnOk, OnErr}
use Rattle.std.specs.{Str.{IsUtf8}, declared.alloc.AllocError.{AllocError}}
use Rattle.html_names_table.specs.{NameTables.{number_where}, declared.name_table.own_numbers.OwnNumbers.{OwnNumbers}}
use Rattle.html_names_core.specs.Names.{stands_in}

-- the slot of a text among so many slots
unfoldable pub slot_of : List ℕ → (count : ℕ) → ℕ
slot_of text count =
    bit_and (fold (λ hash byte. (bit_xor hash byte * 16777619) % 2 ^ 64) 0 text) (count - 1)

-- the number in the slot of a text
abbrev pub slot_number : OwnNumbers → List ℕ → ℕ
slot_number own text = slice_index own.slots.items (slot_of text (length own.slots.items))

-- the map has no text
abbrev pub HoldsNoText : OwnNumbers → Type 0
HoldsNoText own = (text : List ℕ) → get_by_text own.rest text ≡ None

-- a text gets its slot, which was free
pub record TakesSlot (old new : OwnNumbers) (text : List ℕ) (number : ℕ) : Type 0 where
  pub free : number ≤ slot_number old text
  pub taken : slot_number new text ≡ number
  pub others : (other : List ℕ) → (slot_number new other ≡ slot_number old other)
      ⊎ (slot_number old other ≡ slot_number old text)
  pub rest : (other : List ℕ) → get_by_text new.rest other ≡ get_by_text old.rest other

-- a text goes to the map, as its slot is not free
pub record JoinsRest (old new : OwnNumbers) (text : List ℕ) (number : ℕ) : Type 0 where
  pub slots : (other : List ℕ) → slot_number new other ≡ slot_number old other
  pub rest : (other : List ℕ) → get_by_text new.rest other
      ≡ (if bytes_eq text other then Some number else get_by_text old.rest other)

-- a call sets the number of a text in its slot or in the map; if it fails, it changes nothing
pub record PutsText (result : Result (Unit {0}) AllocError) (old new : OwnNumbers) (text : List ℕ)
    (number : ℕ) : Type 0 where
  pub placed : OnOk result (TakesSlot old new text number ⊎ JoinsRest old new text number)
  pub slots : OnErr result ((other : List ℕ) → slot_number new other ≡ slot_number old other)
  pub rest : OnErr result ((other : List ℕ) →
      get_by_text new.rest other ≡ get_by_text old.rest other)

-- the number of a text among names, if it is one of them, is in its slot or in the map
abbrev pub IsFound : OwnNumbers → List (List ℕ) → (text : List ℕ) → Type 0
IsFound own names text = (Some (slot_number own text) ≡ number_where names (chars text))
    ⊎ (get_by_text own.rest text ≡ number_where names (chars text))

-- so it is for each text over a table of known names that is not known
pub record IsOwnNumbering (table : List (List ℕ)) (own : OwnNumbers) (names : List (List ℕ)) :
    Type 0 where
  pub found : (text : List ℕ) → IsUtf8 text → stands_in table (chars text) ≡ false →
      IsFound own names text
