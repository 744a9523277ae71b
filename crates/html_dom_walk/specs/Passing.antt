-- What a state comes to as a loop over a walk steps over each event, and leaves out what is below
-- some of the elements; and when a recursion over the tree comes to the same.
use Rattle.std.specs.Prelude.{◌≡◌, ℕ, zero, suc, Bool, true, false, if◌then◌else◌, List, [], ◌∷◌, ◌++◌}
use Rattle.html_dom_tree.specs.Frames.{HtmlFrameView}
use Rattle.html_dom_tree.specs.Tree.{Head, TagView, tag_node, text_node, element_node, frame_node, NodesView, none, node}
use Rattle.html_dom_walk.specs.Events.{Placed, tag, text, frame, enter, leave}

-- `hidden` is how many elements are open from the one on below which all is left out
abbrev pub past : {S : Type 0} → (step : S → Placed → S) (skips : S → Head → Bool)
    (hidden : ℕ) → S → List Placed → S
past step skips hidden s [] = s
past step skips zero s ((path, enter h kids) ∷ later) =
    past step skips (if skips s h then 1 else 0) (step s (path, enter h kids)) later
past step skips zero s ((path, leave) ∷ later) = past step skips 0 (step s (path, leave)) later
past step skips zero s ((path, tag t) ∷ later) = past step skips 0 (step s (path, tag t)) later
past step skips zero s ((path, text x span) ∷ later) =
    past step skips 0 (step s (path, text x span)) later
past step skips zero s ((path, frame f) ∷ later) = past step skips 0 (step s (path, frame f)) later
past step skips (suc zero) s ((path, leave) ∷ later) =
    past step skips 0 (step s (path, leave)) later
past step skips (suc (suc hidden)) s ((path, leave) ∷ later) =
    past step skips (suc hidden) s later
past step skips (suc hidden) s ((path, enter h kids) ∷ later) =
    past step skips (suc (suc hidden)) s later
past step skips (suc hidden) s ((path, tag t) ∷ later) = past step skips (suc hidden) s later
past step skips (suc hidden) s ((path, text x span) ∷ later) = past step skips (suc hidden) s later
past step skips (suc hidden) s ((path, frame f) ∷ later) = past step skips (suc hidden) s later

-- a recursion over nodes, of which the first has that index below a parent, goes step by step
pub record Goes {S : Type 0} (step : S → Placed → S) (skips : S → Head → Bool)
    (nodes_past : (parent : List ℕ) (index : ℕ) → S → NodesView → S) : Type 0 where
  pub at_none : (parent : List ℕ) (index : ℕ) (s : S) → nodes_past parent index s none ≡ s
  pub at_tag : (parent : List ℕ) (index : ℕ) (s : S) (t : TagView) (ns : NodesView) →
      nodes_past parent index s (node (tag_node t) ns)
      ≡ nodes_past parent (suc index) (step s (parent ++ index ∷ [], tag t)) ns
  pub at_text : (parent : List ℕ) (index : ℕ) (s : S) (x : List ℕ) (span : ℕ) (ns : NodesView) →
      nodes_past parent index s (node (text_node x span) ns)
      ≡ nodes_past parent (suc index) (step s (parent ++ index ∷ [], text x span)) ns
  pub at_frame : (parent : List ℕ) (index : ℕ) (s : S) (f : HtmlFrameView) (ns : NodesView) →
      nodes_past parent index s (node (frame_node f) ns)
      ≡ nodes_past parent (suc index) (step s (parent ++ index ∷ [], frame f)) ns
  pub at_element : (parent : List ℕ) (index : ℕ) (s : S) (h : Head) (kids ns : NodesView) →
      skips s h ≡ false → let path = parent ++ index ∷ [] in
      nodes_past parent index s (node (element_node h kids) ns) ≡ nodes_past parent (suc index)
      (step (nodes_past path 0 (step s (path, enter h kids)) kids) (path, leave)) ns
  pub at_skipped : (parent : List ℕ) (index : ℕ) (s : S) (h : Head) (kids ns : NodesView) →
      skips s h ≡ true → let path = parent ++ index ∷ [] in
      nodes_past parent index s (node (element_node h kids) ns)
      ≡ nodes_past parent (suc index) (step (step s (path, enter h kids)) (path, leave)) ns
