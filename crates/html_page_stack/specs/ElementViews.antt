-- The program's open elements as those of the definition.
use Rattle.std.specs.Prelude.{List, map, reverse}
use Rattle.html_dom_tree.specs.Views.{element_view, nodes_view}
use Rattle.html_page_stack.specs.{OpenElements.{OpenElement}, declared.element.PageElement.{PageElement}}

abbrev pub element_of : PageElement → OpenElement
element_of e = let v = element_view e.element in record {
  head = v.0;
  space = e.space;
  destination = e.destination;
  children = v.1;
  behind = nodes_view e.behind.items;
}

-- the open elements, innermost first
abbrev pub list_of : List PageElement → List OpenElement
list_of es = reverse (map element_of es)
