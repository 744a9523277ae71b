-- The indices of nodes among their siblings in a browser's tree (DOM), in which neighbouring texts
-- are one node and tags are none. A frame is written as one element.
use Rattle.std.specs.Prelude.{ℕ, suc, ◌+◌, List, [], ◌∷◌, Bool, true, false, if◌then◌else◌}
use Rattle.html_dom_tree.specs.Tree.{NodeView, tag_node, text_node, element_node, frame_node, NodesView, none, node}

infixl 20 ◌then◌
-- two lists of nodes, one after the other
abbrev pub ◌then◌ : NodesView → NodesView → NodesView
none then others = others
(node n ns) then others = node n (ns then others)

-- the number of elements, frames among them
abbrev pub element_count : NodesView → ℕ
element_count none = 0
element_count (node (tag_node t) ns) = element_count ns
element_count (node (text_node s span) ns) = element_count ns
element_count (node (element_node h children) ns) = suc (element_count ns)
element_count (node (frame_node f) ns) = suc (element_count ns)

-- the number of runs of texts that begin, after a text or not; tags split no run, and empty texts
-- count
abbrev pub run_count : (after_text : Bool) → NodesView → ℕ
run_count after_text none = 0
run_count after_text (node (tag_node t) ns) = run_count after_text ns
run_count after_text (node (text_node s span) ns) =
    (if after_text then 0 else 1) + run_count true ns
run_count after_text (node (element_node h children) ns) = run_count false ns
run_count after_text (node (frame_node f) ns) = run_count false ns

-- the number of runs of texts that an element or a frame has ended
abbrev pub ended_run_count : (after_text : Bool) → NodesView → ℕ
ended_run_count after_text none = 0
ended_run_count after_text (node (tag_node t) ns) = ended_run_count after_text ns
ended_run_count after_text (node (text_node s span) ns) = ended_run_count true ns
ended_run_count after_text (node (element_node h children) ns) =
    (if after_text then 1 else 0) + ended_run_count false ns
ended_run_count after_text (node (frame_node f) ns) =
    (if after_text then 1 else 0) + ended_run_count false ns

-- the index of a node after others: for an element or a frame, the elements and runs before it; for
-- a tag or a text, the elements before it and the runs that have ended
abbrev pub dom_index : (before : NodesView) → NodeView → ℕ
dom_index before (tag_node t) = element_count before + ended_run_count false before
dom_index before (text_node s span) = element_count before + ended_run_count false before
dom_index before (element_node h children) = element_count before + run_count false before
dom_index before (frame_node f) = element_count before + run_count false before

-- the indices of nodes after others
abbrev pub dom_indices_after : (before : NodesView) → NodesView → List ℕ
dom_indices_after before none = []
dom_indices_after before (node n ns) =
    dom_index before n ∷ dom_indices_after (before then node n none) ns

abbrev pub dom_indices : NodesView → List ℕ
dom_indices ns = dom_indices_after none ns
