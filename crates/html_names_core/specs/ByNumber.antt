-- A name's entries in the tables of kinds and displays, by its index.
use Rattle.std.specs.Prelude.{ℕ, Bool, false, not, ◌==◌, bit_and, slice_index_or, Option, None}
use Rattle.html_names_core.specs.declared.{name.Name.{Name}, name.Name.TheVariants.{Known, Own}, property.Display.{Display}}
use Rattle.html_names_core.specs.declared.table.TheConstants.{KINDS, DISPLAYS}

-- whether the kinds contain that kind
abbrev pub has_kind : (kind kinds : ℕ) → Bool
has_kind kind kinds = not (bit_and kinds kind == 0)

abbrev pub name_has : ℕ → Name → Bool
name_has kind (Known n) = has_kind kind (slice_index_or KINDS n 0)
name_has kind (Own s) = false

abbrev pub name_display : Name → Option Display
name_display (Known n) = slice_index_or DISPLAYS n None
name_display (Own s) = None
