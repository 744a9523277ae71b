-- The pure values of nodes in a list, given the name table to which their numbers refer.
use Rattle.std.specs.{List.{list_all}, Prelude.{ℕ, Bool, true, ◌&&◌, nat_lt, List, map, length, option_map, String}}
use Rattle.std.specs.declared.alloc.Global.{Global}
use Rattle.html_names_core.specs.Texts.{text_view, TextPair}
use Rattle.html_names_table.specs.NameTables.{NamesView, name_at}
use Rattle.html_dom_tree.specs.{FrameViews.{html_frame_view}, Tree.{Head}, Views.{tag_view}}
use Rattle.html_dom_flat.specs.Flat.{FlatNodeView, flat_tag, flat_text, flat_frame, flat_element}
use Rattle.html_dom_flat.specs.declared.flat_node.{FlatElement.{FlatElement}, FlatNode.{FlatNode}}
use Rattle.html_dom_flat.specs.declared.flat_node.FlatNode.TheVariants.{Tag, Text, Frame, Element}

-- the number of an attribute's name, and its value
abbrev pub FlatPair : Type 0
FlatPair = ℕ × String Global

abbrev pub flat_pair : NamesView → FlatPair → TextPair
flat_pair names pair = (name_at names.attrs pair.0, text_view pair.1)

-- an element apart from its children
abbrev pub flat_head : NamesView → FlatElement → Head
flat_head names e = record {
  name = name_at names.tags e.tag;
  attrs = map (flat_pair names) e.attrs.items;
  css = e.css;
  parent = option_map (λ l. l.0) e.parent;
  span = e.span.0;
  pre_span = e.pre_span;
}

abbrev pub flat_node_view : NamesView → FlatNode → FlatNodeView
flat_node_view names (Tag t) = flat_tag (tag_view t)
flat_node_view names (Text s span) = flat_text (text_view s) span.0
flat_node_view names (Frame f) = flat_frame (html_frame_view f.value)
flat_node_view names (Element e) = flat_element (flat_head names e) e.past

abbrev pub flat_nodes_view : NamesView → List FlatNode → List FlatNodeView
flat_nodes_view names = map (flat_node_view names)

-- whether the number of an attribute's name is in the table
abbrev pub is_pair_given : NamesView → FlatPair → Bool
is_pair_given names pair = nat_lt pair.0 (length names.attrs)

-- whether the numbers of an element's tag and attributes are in the table
abbrev pub is_given : NamesView → FlatElement → Bool
is_given names e = nat_lt e.tag (length names.tags) && list_all (is_pair_given names) e.attrs.items

abbrev pub is_node_given : NamesView → FlatNode → Bool
is_node_given names (Tag t) = true
is_node_given names (Text s span) = true
is_node_given names (Frame f) = true
is_node_given names (Element e) = is_given names e

abbrev pub are_given : NamesView → List FlatNode → Bool
are_given names = list_all (is_node_given names)
