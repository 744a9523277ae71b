-- The program's element and its surroundings as that of the definition.
use Rattle.html_dom_tree.specs.Views.{element_view}
use Rattle.html_page_nesting.specs.Ancestors as ancestors
use Rattle.html_page_nesting.specs.declared.inside.Ancestor.{Ancestor}

abbrev pub ancestor_view : Ancestor → ancestors.Ancestor
ancestor_view a = record { head = (element_view a.known.now.element.now).0; space = a.space }
