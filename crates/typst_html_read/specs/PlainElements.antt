-- The element of a plain tree, which has nothing that a text does not spell.
use Rattle.std.specs.{List.{list_all}, Prelude.{ℕ, Bool, true, false, ◌&&◌, List, [], if◌then◌else◌, Option, Some, None, is_none}}
use Rattle.html_names_core.specs.Names.{tag_fault, attr_fault}
use Rattle.html_dom_tree.specs.PlainTree.{Plain, words, branch, Plains, no_plains, plain}
use Rattle.html_dom_tree.specs.Tree.{TextPair, Head, text_node, element_node, NodesView, none, node, ElementView}

-- the head of an element in which all but the name and the attributes is as in a new element
abbrev pub plain_head : List ℕ → List TextPair → Head
plain_head name attrs = record {
  name = name;
  attrs = attrs;
  css = [];
  parent = None;
  span = 0;
  pre_span = false;
}

unfoldable pub plain_nodes : Plains → NodesView
plain_nodes no_plains = none
plain_nodes (plain (words text) ps) = node (text_node text 0) (plain_nodes ps)
plain_nodes (plain (branch name attrs children) ps) =
    node (element_node (plain_head name attrs) (plain_nodes children)) (plain_nodes ps)

abbrev pub plain_element : List ℕ → List TextPair → Plains → ElementView
plain_element name attrs children = (plain_head name attrs, plain_nodes children)

-- the name of a start tag is that of a tag, and those of its attributes are those of attributes
abbrev pub is_named : List ℕ → List TextPair → Bool
is_named name attrs = is_none (tag_fault name) && list_all (λ p. is_none (attr_fault p.0)) attrs

-- each element at any depth has such names
unfoldable pub are_named : Plains → Bool
are_named no_plains = true
are_named (plain (words text) ps) = are_named ps
are_named (plain (branch name attrs children) ps) =
    is_named name attrs && (are_named children && are_named ps)

-- the element that was read, if one was and all its names are accepted
abbrev pub accepted : Option Plain → Option ElementView
accepted None = None
accepted (Some (words text)) = None
accepted (Some (branch name attrs children)) = if is_named name attrs && are_named children
    then Some (plain_element name attrs children) else None
