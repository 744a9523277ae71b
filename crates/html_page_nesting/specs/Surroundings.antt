-- The meaning of a node's ancestors for it: its place, and the open elements.
use Rattle.std.specs.Prelude.{suc, Bool, not, ◌&&◌, ◌||◌, List, length}
use Rattle.html_page_names.specs.PageNames.{of}
use Rattle.html_page_names.specs.declared.kind.Kind.TheVariants as kind
use Rattle.html_page_nesting.specs.Ancestors.{Ancestor, bounds_button_scope, bounds_item, bounds_scope, hides_formatting, is_in, is_of, is_template, place_inside, place_of, reaches, reading_in, reading_of}
use Rattle.html_page_nesting.specs.declared.surroundings.{Open.{Open}, Parent.{Parent}, Surroundings.{Surroundings}}

-- the kinds of the parent
abbrev pub parent_of : List Ancestor → Parent
parent_of above = record {
  head = is_in (of kind.Head) above;
  heading = is_in (of kind.Heading) above;
  implied = is_in (of kind.Implied) above;
  optgroup = is_in (of kind.Optgroup) above;
  option = is_in (of kind.Option) above;
  rtc = is_in (of kind.Rtc) above;
}

-- the elements that stand above with no boundary between
abbrev pub open_of : List Ancestor → Open
open_of above = record {
  paragraph = reaches (is_of (of kind.P)) bounds_button_scope above;
  button = reaches (is_of (of kind.Button)) bounds_scope above;
  nobr = reaches (is_of (of kind.Nobr)) bounds_scope above;
  ruby = reaches (is_of (of kind.Ruby)) bounds_scope above;
  select = reaches (is_of (of kind.Select)) bounds_scope above;
  list_item = reaches (is_of (of kind.ListItem)) bounds_item above;
  description = reaches (is_of (of kind.DescriptionPart)) bounds_item above;
  anchor = reaches (is_of (of kind.A)) hides_formatting above;
  form = reaches (is_of (of kind.Form)) is_template above;
  outer_select = reaches (is_of (of kind.Select)) is_template above;
}

abbrev pub surroundings_of : List Ancestor → Surroundings
surroundings_of above = record {
  depth = length above;
  place = place_of above;
  reading = reading_of above;
  parent = parent_of above;
  open_elements = open_of above;
}

-- the surroundings of an element's children, from its own

abbrev pub parent_with : Ancestor → Parent
parent_with a = record {
  head = is_of (of kind.Head) a;
  heading = is_of (of kind.Heading) a;
  implied = is_of (of kind.Implied) a;
  optgroup = is_of (of kind.Optgroup) a;
  option = is_of (of kind.Option) a;
  rtc = is_of (of kind.Rtc) a;
}

-- whether an element is a goal, or is no boundary and a goal is open around it
abbrev pub still : (goal bound before : Bool) → Bool
still goal bound before = goal || (not bound && before)

abbrev pub open_with : Ancestor → Open → Open
open_with a o = record {
  paragraph = still (is_of (of kind.P) a) (bounds_button_scope a) o.paragraph;
  button = still (is_of (of kind.Button) a) (bounds_scope a) o.button;
  nobr = still (is_of (of kind.Nobr) a) (bounds_scope a) o.nobr;
  ruby = still (is_of (of kind.Ruby) a) (bounds_scope a) o.ruby;
  select = still (is_of (of kind.Select) a) (bounds_scope a) o.select;
  list_item = still (is_of (of kind.ListItem) a) (bounds_item a) o.list_item;
  description = still (is_of (of kind.DescriptionPart) a) (bounds_item a) o.description;
  anchor = still (is_of (of kind.A) a) (hides_formatting a) o.anchor;
  form = still (is_of (of kind.Form) a) (is_template a) o.form;
  outer_select = still (is_of (of kind.Select) a) (is_template a) o.outer_select;
}

abbrev pub surroundings_with : Ancestor → Surroundings → Surroundings
surroundings_with a s = record {
  depth = suc s.depth;
  place = place_inside s.parent.head a.space a.head.name;
  reading = reading_in a.space a.head;
  parent = parent_with a;
  open_elements = open_with a s.open_elements;
}
