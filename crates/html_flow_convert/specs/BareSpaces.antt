-- The spaces that may stay as they are, since white space collapsing leaves them (CSS Text 4.1.1
-- and 4.1.2: it removes a space after a space, and at the start and the end of a line).
use Rattle.std.specs.List.{list_any, list_all}
use Rattle.std.specs.Prelude.{ℕ, ◌+◌, Bool, true, false, not, ◌&&◌, ◌||◌, List, [], ◌∷◌, ◌++◌, codes, bytes_eq, if◌then◌else◌, Option, Some, None}
use Rattle.html_names_core.specs.{Characters.{is_ignorable}, Kinds.{is_replaced, is_whitespace_collapsing}, Texts.{TextPair}}
use Rattle.html_dom_tree.specs.Tree.{Head, NodeView, tag_node, text_node, element_node, frame_node, NodesView, none, node}
use Rattle.html_flow_convert.specs.Nodes.{is_one}

-- what a list of nodes looks like in a line, which may end at a border
pub data Thing : Type 0 where
  border : Thing
  visible : Thing
  space : Thing

-- whether a property is `display` with the value `block`
abbrev pub is_display_block : TextPair → Bool
is_display_block p = bytes_eq p.0 (codes "display") && bytes_eq p.1 (codes "block")

-- whether css makes a block
abbrev pub makes_block : (css : List TextPair) → Bool
makes_block = list_any is_display_block

-- whether an element has lines of its own, by its css or its default display, or is a `br`
unfoldable pub is_border_element : Head → Bool
is_border_element h = makes_block h.css || is_whitespace_collapsing h.name

-- whether an element is looked into
unfoldable pub is_entered : Head → Bool
is_entered h = not (is_border_element h) && not (is_replaced h.name) && not h.pre_span

abbrev pub text_things : List ℕ → List Thing
text_things text =
    if is_one 32 text then space ∷ []
    else (if list_all is_ignorable text then [] else visible ∷ [])

abbrev pub element_things : Head → (inside : List Thing) → List Thing
element_things h inside =
    if is_border_element h then border ∷ []
    else (if is_replaced h.name then visible ∷ [] else (if h.pre_span then [] else inside))

unfoldable mutual
  pub node_things : NodeView → List Thing
  node_things (tag_node t) = []
  node_things (text_node s span) = text_things s
  node_things (element_node h ns) = element_things h (nodes_things ns)
  node_things (frame_node f) = visible ∷ []

  pub nodes_things : NodesView → List Thing
  nodes_things none = []
  nodes_things (node n ns) = node_things n ++ nodes_things ns

-- whether something that is no border stands right before
abbrev pub is_in_line : (before : Option Thing) → Bool
is_in_line None = false
is_in_line (Some border) = false
is_in_line (Some visible) = true
is_in_line (Some space) = true

-- whether something visible stands right after
abbrev pub is_visible_first : (after : List Thing) → Bool
is_visible_first [] = false
is_visible_first (border ∷ ts) = false
is_visible_first (visible ∷ ts) = true
is_visible_first (space ∷ ts) = false

-- whether each space is bare, in order, given what stands before the first thing
unfoldable pub bare_after : (before : Option Thing) → List Thing → List Bool
bare_after before [] = []
bare_after before (border ∷ ts) = bare_after (Some border) ts
bare_after before (visible ∷ ts) = bare_after (Some visible) ts
bare_after before (space ∷ ts) =
    (is_in_line before && is_visible_first ts) ∷ bare_after (Some space) ts

-- whether each lone space of the nodes is bare, in order
abbrev pub bare_spaces : NodesView → List Bool
bare_spaces ns = bare_after None (nodes_things ns)

-- the number of nodes that are looked at: those inside an element that is not looked into do not
-- count, but the element does
unfoldable mutual
  pub node_turns : NodeView → ℕ
  node_turns (tag_node t) = 1
  node_turns (text_node s span) = 1
  node_turns (element_node h ns) = 1 + (if is_entered h then nodes_turns ns else 0)
  node_turns (frame_node f) = 1

  pub nodes_turns : NodesView → ℕ
  nodes_turns none = 0
  nodes_turns (node n ns) = node_turns n + nodes_turns ns
