-- The spaces that may stay as they are, by one Boolean for what stands before and one for what
-- stands after: whether a thing that is no border stands right before, and whether the thing right
-- after is visible.
use Rattle.std.specs.Prelude.{◌≡◌, Bool, true, false, ◌&&◌, List, [], ◌∷◌, if◌then◌else◌}
use Rattle.html_dom_tree.specs.Tree.{NodeView, tag_node, text_node, element_node, frame_node, NodesView, none, node}
use Rattle.html_flow_convert.specs.{BareSpaces.{Thing, border, visible, space, is_entered, node_things, nodes_things}, Nodes.{is_one}}
use Rattle.html_flow_convert.specs.Protected.{text_by_answer, protected_nodes}

-- whether the first thing is visible, given whether the one right after the list is
abbrev pub visible_at : List Thing → (after : Bool) → Bool
visible_at [] after = after
visible_at (border ∷ ts) after = false
visible_at (visible ∷ ts) after = true
visible_at (space ∷ ts) after = false

-- whether the last thing is no border, given whether such a thing precedes the list
abbrev pub line_past : (before : Bool) → List Thing → Bool
line_past before [] = before
line_past before (border ∷ ts) = line_past false ts
line_past before (visible ∷ ts) = line_past true ts
line_past before (space ∷ ts) = line_past true ts

-- for each space of a list between others, whether it is bare
abbrev pub bare_between : (before after : Bool) → List Thing → List Bool
bare_between before after [] = []
bare_between before after (border ∷ ts) = bare_between false after ts
bare_between before after (visible ∷ ts) = bare_between true after ts
bare_between before after (space ∷ ts) =
    (before && visible_at ts after) ∷ bare_between true after ts

-- nodes between others, each lone space in them that is not bare in a `span` of its own
abbrev mutual
  pub node_between : (before after : Bool) → NodeView → NodeView
  node_between before after (tag_node t) = tag_node t
  node_between before after (text_node s span) =
      if is_one 32 s then text_by_answer (before && after) s span else text_node s span
  node_between before after (element_node h ns) =
      if is_entered h then element_node h (nodes_between before after ns) else element_node h ns
  node_between before after (frame_node f) = frame_node f

  pub nodes_between : (before after : Bool) → NodesView → NodesView
  nodes_between before after none = none
  nodes_between before after (node n ns) =
      node (node_between before (visible_at (nodes_things ns) after) n)
      (nodes_between (line_past before (node_things n)) after ns)

-- what stands before and after a lone space determines whether it is protected
abbrev pub ProtectsByContext : Type 0
ProtectsByContext = (ns : NodesView) → protected_nodes ns ≡ nodes_between false false ns
