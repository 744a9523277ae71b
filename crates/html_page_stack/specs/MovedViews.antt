-- What is moved before a table, as what it does to the element that it is moved into.
use Rattle.html_dom_tree.specs.Views.{text_view}
use Rattle.html_page_stack.specs.{ElementViews.{element_of}, OpenElements.{OpenElement, placed, with_text}}
use Rattle.html_page_stack.specs.declared.before_table.Moved.{Moved}
use Rattle.html_page_stack.specs.declared.before_table.Moved.TheVariants as moved

abbrev pub moved_to : Moved → OpenElement → OpenElement
moved_to (moved.Element child) = placed (element_of child)
moved_to (moved.Text text) = with_text (text_view text)
