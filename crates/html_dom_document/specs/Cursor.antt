-- DOM indices by one walk along a list: a cursor counts the elements and the ended runs so far, and
-- holds whether there is a text after the last element.
use Rattle.std.specs.Prelude.{ℕ, suc, List, [], ◌∷◌, true, false, if◌then◌else◌}
use Rattle.html_dom_tree.specs.{Tree.{NodeView, tag_node, text_node, element_node, frame_node}, Views.{node_view}}
use Rattle.html_dom_tree.specs.declared.node.HtmlNode.{HtmlNode}
use Rattle.html_dom_document.specs.declared.cursor.Cursor.{Cursor}

-- the cursor before the first node
abbrev pub first_cursor : Cursor
first_cursor = record { passed = 0; after_text = false }

-- the index of an element at the cursor
abbrev pub element_index : Cursor → ℕ
element_index c = if c.after_text then suc c.passed else c.passed

-- the index of a node at the cursor
abbrev pub index_at : Cursor → NodeView → ℕ
index_at c (tag_node t) = c.passed
index_at c (text_node s span) = c.passed
index_at c (element_node h children) = element_index c
index_at c (frame_node f) = element_index c

abbrev pub past_element : Cursor → Cursor
past_element c = record { passed = suc (element_index c); after_text = false }

-- the cursor after a node
abbrev pub cursor_after : Cursor → NodeView → Cursor
cursor_after c (tag_node t) = c
cursor_after c (text_node s span) = record { passed = c.passed; after_text = true }
cursor_after c (element_node h children) = past_element c
cursor_after c (frame_node f) = past_element c

-- nodes with their indices
abbrev pub nodes_with_indices : Cursor → List HtmlNode → List (HtmlNode × ℕ)
nodes_with_indices c [] = []
nodes_with_indices c (n ∷ ns) = (n, index_at c (node_view n)) ∷ nodes_with_indices (cursor_after c (node_view n)) ns
