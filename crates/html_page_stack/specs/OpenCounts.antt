-- Whether an element has elements among its children.
use Rattle.std.specs.Prelude.{Bool}
use Rattle.html_dom_tree.specs.Tree.{ElementView}
use Rattle.html_page_stack.specs.OpenElements.{has_elements}

abbrev pub has_child_elements : ElementView → Bool
has_child_elements e = has_elements e.1
