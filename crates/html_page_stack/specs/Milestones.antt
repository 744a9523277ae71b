-- What some open elements know of those around them, so that a search need not walk past them.
use Rattle.std.specs.Prelude.{◌≡◌, ℕ, ◌+◌, ◌-◌, ◌*◌, ◌%◌, ◌^◌, Bool, true, false, ◌==◌, List, [], ◌∷◌, length, if◌then◌else◌, slice_index_or, bit_and, bit_or, Option, Some, None}
use Rattle.html_page_names.specs.PageNames.{of}
use Rattle.html_page_names.specs.declared.kind.Kind.TheVariants as kind
use Rattle.html_page_stack.specs.OpenElements.{OpenElement, bounds, has_item, in_scope, is_of, reaches}
use Rattle.html_page_stack.specs.declared.milestone.Milestone.{Milestone}
use Rattle.html_page_stack.specs.declared.modes.Scope.TheVariants.{General, ListItem, Table}
use lib.Utf8.{encodes}

-- a number below 64 of a name by its bytes, the same for its letters in lowercase
abbrev pub byte_number : List ℕ → ℕ
byte_number bs = (slice_index_or bs 0 0 % 32 + 6 * slice_index_or bs (length bs - 1) 0
    + length bs % 64) % 64

unfoldable pub name_number : (name : List ℕ) → ℕ
name_number name = byte_number (encodes name)

-- the bit of an element's name; `html` and `body`, which are open in nearly every page, have none
abbrev pub element_bit : OpenElement → ℕ
element_bit o = if is_of (of kind.Root) o then 0 else 2 ^ name_number o.head.name

-- the names from the current node outwards to the first element that ends them, each a bit
abbrev pub names : (ends : OpenElement → Bool) → List OpenElement → ℕ
names ends [] = 0
names ends (o ∷ os) = bit_or (element_bit o) (if ends o then 0 else names ends os)

-- what is known of elements
abbrev pub milestone : List OpenElement → Milestone
milestone os = record {
  has_select = in_scope General (of kind.Select) os;
  has_ruby = in_scope General (of kind.Ruby) os;
  has_heading = in_scope General (of kind.Heading) os;
  has_open_item = in_scope ListItem (of kind.ListItem) os;
  has_list_item = has_item (of kind.ListItem) os;
  has_description_part = has_item (of kind.DescriptionPart) os;
  near_names = names (is_of (of kind.Special)) os;
  scope_names = names (bounds General) os;
  table_names = names (bounds Table) os;
}

-- what the current node knows of those around it, if it is a milestone: one in 64 elements is
abbrev pub known_around : List OpenElement → Option Milestone
known_around [] = None
known_around (o ∷ os) = if length os % 64 == 0 then Some (milestone os) else None

-- a goal that only elements with this name are, in any namespace and any case, unless it is that of
-- `html` or `body`
abbrev pub IsOnlyNamed : (goal : OpenElement → Bool) → (name : List ℕ) → Type 0
IsOnlyNamed goal name = of kind.Root name ≡ false → (o : OpenElement) → goal o ≡ true →
    element_bit o ≡ 2 ^ name_number name

-- no search for a name whose bit is not among these reaches an element
abbrev pub Covers : (bound : OpenElement → Bool) → (bits : ℕ) → List OpenElement → Type 0
Covers bound bits os = (goal : OpenElement → Bool) → (n : ℕ) →
    ((o : OpenElement) → goal o ≡ true → element_bit o ≡ 2 ^ n) → bit_and bits (2 ^ n) ≡ 0 →
    reaches goal bound os ≡ false
