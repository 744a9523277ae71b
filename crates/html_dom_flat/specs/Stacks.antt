-- A walk through a list from its end: the nodes that are made and belong to no element yet are on a
-- stack, each with its index, the first of them on top.
use Rattle.std.specs.Prelude.{◌≡◌, ℕ, ◌+◌, Bool, true, false, nat_lt, if◌then◌else◌, List, [], ◌∷◌, map, reverse, Option, Some, None}
use Rattle.html_dom_tree.specs.{Tree.{NodeView, tag_node, text_node, element_node, frame_node, NodesView}, Views.{node_view, nodes_of}}
use Rattle.html_dom_tree.specs.declared.node.HtmlNode.{HtmlNode}
use Rattle.html_dom_flat.specs.Flat.{FlatNodeView, flat_tag, flat_text, flat_frame, flat_element}

-- an index, and the node there
abbrev pub IndexedView : Type 0
IndexedView = ℕ × NodeView

abbrev pub indexed_view : ℕ × HtmlNode → IndexedView
indexed_view indexed = (indexed.0, node_view indexed.1)

abbrev pub indexed_node : IndexedView → NodeView
indexed_node indexed = indexed.1

-- a stack, its top first
abbrev pub stack_view : List (ℕ × HtmlNode) → List IndexedView
stack_view stack = reverse (map indexed_view stack)

-- the nodes of a stack
abbrev pub stack_nodes : List IndexedView → NodesView
stack_nodes stack = nodes_of (map indexed_node stack)

-- the nodes at the top of a stack that are before an index
unfoldable pub stacked_before : (past : ℕ) → List IndexedView → List NodeView
stacked_before past [] = []
stacked_before past (x ∷ xs) = if nat_lt x.0 past then x.1 ∷ stacked_before past xs else []

-- the rest of the stack below these
unfoldable pub rest_after : (past : ℕ) → List IndexedView → List IndexedView
rest_after past [] = []
rest_after past (x ∷ xs) = if nat_lt x.0 past then rest_after past xs else x ∷ xs

-- whether the top is before an index
abbrev pub is_top_before : (past : ℕ) → List IndexedView → Bool
is_top_before past [] = false
is_top_before past (x ∷ xs) = nat_lt x.0 past

-- the stack after a pop, which returns the top if that is before an index
abbrev pub IsPopped : (past : ℕ) → (old new : List IndexedView) → Option NodeView → Type 0
IsPopped past old new (Some n) = (index : ℕ) × (nat_lt index past ≡ true) × (old ≡ (index, n) ∷ new)
IsPopped past old new None =
    (stacked_before past old ≡ []) × (rest_after past old ≡ old) × (new ≡ old)

-- the node made from one of the list, given the stack of the nodes that follow it, and the rest of
-- the stack
abbrev pub made_of : FlatNodeView → List IndexedView → NodeView × List IndexedView
made_of (flat_tag t) stack = (tag_node t, stack)
made_of (flat_text s span) stack = (text_node s span, stack)
made_of (flat_frame f) stack = (frame_node f, stack)
made_of (flat_element h past) stack =
    (element_node h (nodes_of (stacked_before past stack)), rest_after past stack)

-- the stack for a list, whose first item has that index
unfoldable pub list_stack : (index : ℕ) → List FlatNodeView → List IndexedView
list_stack index [] = []
list_stack index (f ∷ fs) =
    let made = made_of f (list_stack (index + 1) fs) in (index, made.0) ∷ made.1
