-- Runs of blanks (this project's rule for CSS Text 4.1.1, phase I, which would collapse them).
use Rattle.std.specs.{List.{filter}, Prelude.{ℕ, zero, suc, Bool, true, false, ◌||◌, List, [], ◌∷◌, ◌++◌, if◌then◌else◌}}
use Rattle.html_dom_tree.specs.{Tree.{NodeView, tag_node, text_node, element_node, frame_node, node_span, is_tag}, Views.{nodes_of}}
use Rattle.html_flow_convert.specs.Nodes.{pre_wrap_head, is_one}

-- whether a node is a text of exactly one space, or of exactly one tab
abbrev pub is_space : NodeView → Bool
is_space (tag_node t) = false
is_space (text_node s span) = is_one 32 s
is_space (element_node h ns) = false
is_space (frame_node f) = false

abbrev pub is_tab : NodeView → Bool
is_tab (tag_node t) = false
is_tab (text_node s span) = is_one 9 s
is_tab (element_node h ns) = false
is_tab (frame_node f) = false

abbrev pub is_blank_node : NodeView → Bool
is_blank_node n = is_space n || is_tab n

-- the first span that is not 0, else 0
abbrev pub first_node_span : List NodeView → ℕ
first_node_span [] = 0
first_node_span (n ∷ ns) = span_or (node_span n) (first_node_span ns)
  where
    span_or : ℕ → ℕ → ℕ
    span_or zero later = later
    span_or (suc k) later = suc k

-- whether blanks are preserved: two or more, or a single tab
abbrev pub are_kept : (blanks : List NodeView) → Bool
are_kept [] = false
are_kept (n ∷ []) = is_tab n
are_kept (n ∷ m ∷ ns) = true

-- a run, in a `span` that preserves white space if its blanks must stay
abbrev pub run_nodes : List NodeView → List NodeView
run_nodes ns =
    if are_kept (filter is_blank_node ns)
    then element_node (pre_wrap_head (first_node_span ns)) (nodes_of ns) ∷ []
    else ns

-- blanks and tags up to another node or the end of a list, with each run in its place: a run begins
-- with the first blank
abbrev pub front_nodes : List NodeView → List NodeView
front_nodes [] = []
front_nodes (n ∷ ns) = if is_tag n then n ∷ front_nodes ns else run_nodes (n ∷ ns)

-- the leading blanks and tags of a list; `after_front` has the nodes after them, with each run in
-- its place
unfoldable pub blank_front : List NodeView → List NodeView
blank_front [] = []
blank_front (n ∷ ns) = if is_blank_node n || is_tag n then n ∷ blank_front ns else []

unfoldable pub after_front : List NodeView → List NodeView
after_front [] = []
after_front (n ∷ ns) =
    if is_blank_node n || is_tag n then after_front ns
    else n ∷ (front_nodes (blank_front ns) ++ after_front ns)

-- nodes in which each run of preserved blanks is one `span`
abbrev pub nodes_with_runs : List NodeView → List NodeView
nodes_with_runs ns = front_nodes (blank_front ns) ++ after_front ns
