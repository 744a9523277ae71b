-- Elements as the open elements of the definition.
use Rattle.std.specs.Prelude.{◌≡◌}
use mathlib.Core.HLevel.{hedberg}
use Rattle.html_dom_tree.specs.{NodeEqual.{element_discrete}, PlainTree.{Plain, words, branch, Plains, no_plains, plain}}
use Rattle.html_dom_tree.specs.Tree.{tag_node, text_node, element_node, frame_node, NodesView, none, node, ElementView}
use Rattle.typst_html_encode.specs.Reader.{Open}
use Rattle.typst_html_read.specs.PlainElements.{plain_element}

-- the texts and elements among the nodes, as plain nodes
unfoldable pub bare_nodes : NodesView → Plains
bare_nodes none = no_plains
bare_nodes (node (tag_node t) ns) = bare_nodes ns
bare_nodes (node (text_node s span) ns) = plain (words s) (bare_nodes ns)
bare_nodes (node (element_node h children) ns) =
    plain (branch h.name h.attrs (bare_nodes children)) (bare_nodes ns)
bare_nodes (node (frame_node f) ns) = bare_nodes ns

-- an element with its children so far
abbrev pub open_view : ElementView → Open
open_view e = record { name = e.0.name; attrs = e.0.attrs; children = bare_nodes e.1 }

-- the element has nothing that a text does not spell
abbrev pub IsPlain : ElementView → Type 0
IsPlain e = e ≡ plain_element e.0.name e.0.attrs (bare_nodes e.1)

-- an element that is complete
abbrev pub completed : Open → Plain
completed o = branch o.name o.attrs o.children

-- equal elements are equal in one way
pub element_is_set : IsSet ElementView
element_is_set = hedberg element_discrete
