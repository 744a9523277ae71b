-- The list of active formatting elements, the last entry first (HTML Standard 13.2.4.3).
use Rattle.std.specs.List.{list_all, list_any}
use Rattle.std.specs.Prelude.{ℕ, zero, suc, Bool, false, not, ◌&&◌, ◌||◌, ◌==◌, List, [], ◌∷◌, length, if◌then◌else◌, bytes_eq, Option, Some, None}
use Rattle.html_dom_tree.specs.Attributes.{first}
use Rattle.html_dom_tree.specs.Tree.{TextPair}
use Rattle.html_page_names.specs.PageNames.{is, of}
use Rattle.html_page_names.specs.declared.kind.Kind.TheVariants as kind
use Rattle.html_page_stack.specs.OpenElements.{OpenElement, is_of, is_opened}

-- a formatting element that a tag opened
pub record Format : Type 0 where
  pub name : List ℕ
  pub attrs : List TextPair
  -- the span of each element that is made for it
  pub span : ℕ
  -- the index of the last of these among the open elements, outermost first
  pub index : ℕ

-- the entries of the list; None is a marker
abbrev pub Formats : Type 0
Formats = List (Option Format)

-- whether the entry is that of an open element at that index
abbrev pub is_entry_of : OpenElement → (index : ℕ) → Format → Bool
is_entry_of o index f = (f.index == index) && is_opened f.name f.span o

-- whether the entry is that of the current node
abbrev pub is_current : List OpenElement → Format → Bool
is_current [] f = false
is_current (o ∷ os) f = is_entry_of o (length os) f

-- whether the element of the entry is open
abbrev pub is_open : Format → List OpenElement → Bool
is_open f [] = false
is_open f (o ∷ os) = is_current (o ∷ os) f || is_open f os

abbrev pub is_named : (name : List ℕ) → Format → Bool
is_named name f = is name f.name

-- whether the entry is that of the same element
abbrev pub is_same : Format → Format → Bool
is_same f g = (f.span == g.span) && (f.index == g.index)

abbrev pub has_value : Option (List ℕ) → (value : List ℕ) → Bool
has_value None value = false
has_value (Some v) value = bytes_eq v value

-- whether the attributes are the same, in any order; no name is repeated in either
abbrev pub same_attrs : List TextPair → List TextPair → Bool
same_attrs xs ys = (length xs == length ys) && list_all (λ x. has_value (first ys x.0) x.1) xs

-- whether the entry has the name and the attributes of an element
abbrev pub is_alike : OpenElement → Format → Bool
is_alike o f = is o.head.name f.name && same_attrs f.attrs o.head.attrs

abbrev pub entry_passes : (test : Format → Bool) → Option Format → Bool
entry_passes test None = false
entry_passes test (Some f) = test f

-- whether any entry passes the test
abbrev pub has_entry : (test : Format → Bool) → Formats → Bool
has_entry test = list_any (entry_passes test)

-- whether there is an entry of the current node
abbrev pub is_listed : List OpenElement → Formats → Bool
is_listed [] fs = false
is_listed (o ∷ os) fs = has_entry (is_entry_of o (length os)) fs

-- whether the last entry is no marker, and passes the test
abbrev pub ends_with : (test : Format → Bool) → Formats → Bool
ends_with test [] = false
ends_with test (None ∷ fs) = false
ends_with test (Some f ∷ fs) = test f

-- whether the last entry is that of the current node
abbrev pub is_last : List OpenElement → Formats → Bool
is_last [] fs = false
is_last (o ∷ os) fs = ends_with (is_entry_of o (length os)) fs

-- the last entry behind the last marker that passes the test
abbrev pub last_entry : (test : Format → Bool) → Formats → Option Format
last_entry test [] = None
last_entry test (None ∷ fs) = None
last_entry test (Some f ∷ fs) = if test f then Some f else last_entry test fs

-- the list without the last entry behind the last marker that passes the test, but for so many that
-- pass it behind that entry
abbrev pub without_entry : (test : Format → Bool) (others : ℕ) → Formats → Formats
without_entry test n [] = []
without_entry test n (None ∷ fs) = None ∷ fs
without_entry test zero (Some f ∷ fs) = if test f then fs else Some f ∷ without_entry test zero fs
without_entry test (suc n) (Some f ∷ fs) =
    Some f ∷ without_entry test (if test f then n else suc n) fs

-- the entries before the last marker
abbrev pub before_marker : Formats → Formats
before_marker [] = []
before_marker (None ∷ fs) = fs
before_marker (Some f ∷ fs) = before_marker fs

-- the entry of an element that is opened at that index
abbrev pub entry_of : OpenElement → (index : ℕ) → Format
entry_of o index = record {
  name = o.head.name;
  attrs = o.head.attrs;
  span = o.head.span;
  index = index;
}

-- the list once an element is opened at that index: at most three entries behind the last marker are
-- alike
abbrev pub entered : OpenElement → (index : ℕ) → Formats → Formats
entered o index fs = if is_of (of kind.Marker) o then None ∷ fs
    else (if is_of (of kind.Formatting) o
    then Some (entry_of o index) ∷ without_entry (is_alike o) 2 fs else fs)

-- the list once the current node is closed, by its own end tag or another
abbrev pub after_current : (own : Bool) → List OpenElement → Formats → Formats
after_current own [] fs = fs
after_current own (o ∷ os) fs = if is_of (of kind.Marker) o && own then before_marker fs
    else (if is_of (of kind.Formatting) o && own
    then without_entry (is_entry_of o (length os)) 0 fs else fs)

-- whether the last entry is no marker, and its element is closed
abbrev pub ends_closed : List OpenElement → Formats → Bool
ends_closed os = ends_with (λ f. not (is_open f os))

-- the entries behind the last marker and the last element that is open
abbrev pub closed_entries : List OpenElement → Formats → List Format
closed_entries os [] = []
closed_entries os (None ∷ fs) = []
closed_entries os (Some f ∷ fs) = if is_open f os then [] else f ∷ closed_entries os fs

-- the list without these
abbrev pub before_closed : List OpenElement → Formats → Formats
before_closed os [] = []
before_closed os (None ∷ fs) = None ∷ fs
before_closed os (Some f ∷ fs) = if is_open f os then Some f ∷ fs else before_closed os fs
