-- The program's list of active formatting elements as that of the definition.
use Rattle.std.specs.Prelude.{List, Option, map, option_map, reverse}
use Rattle.html_dom_tree.specs.Views.{attrs_view}
use Rattle.html_page_stack.specs.Formats as formats
use Rattle.html_page_stack.specs.declared.formats.{Format.{Format}, Formats.{Formats}}

abbrev pub format_of : Format → formats.Format
format_of f = record {
  name = f.name.tag;
  attrs = attrs_view f.attrs;
  span = f.span.0;
  index = f.index;
}

-- the entries, the last one last
abbrev pub entries_of : List (Option Format) → formats.Formats
entries_of = map (option_map format_of)

abbrev pub formats_of : Formats → formats.Formats
formats_of f = reverse (entries_of f.entries.items)
