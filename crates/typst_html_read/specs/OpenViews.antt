-- The program's open elements as those of the definition.
use Rattle.std.specs.Prelude.{List, [], ◌∷◌, map, reverse}
use Rattle.html_dom_tree.specs.{PlainTree.{no_plains, plain}, Views.{element_view}}
use Rattle.typst_html_encode.specs.Reader.{Open, ◌then◌}
use Rattle.typst_html_read.specs.{PlainViews.{completed, open_view}, declared.open.OpenElement.{OpenElement}, declared.stack.Stack.{Stack}}

abbrev pub open_of : OpenElement → Open
open_of o = open_view (element_view o.element)

-- the innermost first
abbrev pub list_of : List OpenElement → List Open
list_of os = reverse (map open_of os)

abbrev pub stack_of : Stack → List Open
stack_of s = list_of s.items.items

-- the element with the child appended to its children
abbrev pub with_child : (child o : Open) → Open
with_child child o = record o { children = o.children then plain (completed child) no_plains }

-- the innermost element has the child appended to its children
abbrev pub add_child : Open → List Open → List Open
add_child child [] = []
add_child child (o ∷ os) = with_child child o ∷ os
