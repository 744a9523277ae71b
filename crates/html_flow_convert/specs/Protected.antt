-- Nodes with protected spaces: each lone space that is not bare is in a `span` of its own.
use Rattle.std.specs.Prelude.{ℕ, ◌+◌, Bool, true, false, List, [], ◌∷◌, drop, if◌then◌else◌}
use Rattle.html_dom_tree.specs.Tree.{NodeView, tag_node, text_node, element_node, frame_node, NodesView, none, node}
use Rattle.html_flow_convert.specs.BareSpaces.{Thing, border, visible, space, is_entered, node_things, bare_spaces}
use Rattle.html_flow_convert.specs.Nodes.{pre_wrap_head, is_one}

abbrev pub space_count : List Thing → ℕ
space_count [] = 0
space_count (border ∷ ts) = space_count ts
space_count (visible ∷ ts) = space_count ts
space_count (space ∷ ts) = 1 + space_count ts

-- whether the first of the lone spaces is bare
abbrev pub is_bare : List Bool → Bool
is_bare [] = false
is_bare (b ∷ bs) = b

abbrev pub text_by_answer : (bare : Bool) (text : List ℕ) (span : ℕ) → NodeView
text_by_answer true text span = text_node text span
text_by_answer false text span =
    element_node (pre_wrap_head span) (node (text_node text span) none)

-- nodes with protected spaces, given whether each lone space is bare, in order
unfoldable mutual
  pub node_by_answers : List Bool → NodeView → NodeView
  node_by_answers bare (tag_node t) = tag_node t
  node_by_answers bare (text_node s span) =
      if is_one 32 s then text_by_answer (is_bare bare) s span else text_node s span
  node_by_answers bare (element_node h ns) =
      if is_entered h then element_node h (nodes_by_answers bare ns) else element_node h ns
  node_by_answers bare (frame_node f) = frame_node f

  pub nodes_by_answers : List Bool → NodesView → NodesView
  nodes_by_answers bare none = none
  nodes_by_answers bare (node n ns) =
      node (node_by_answers bare n) (nodes_by_answers (drop (space_count (node_things n)) bare) ns)

abbrev pub protected_nodes : NodesView → NodesView
protected_nodes ns = nodes_by_answers (bare_spaces ns) ns
