-- What a loop that steps over events comes to is what a recursion over the tree comes to.
use Rattle.std.proofs.Common.{◌≡◌, ℕ, zero, suc, Bool, true, false, List, [], ◌∷◌, ◌++◌, refl, sym, ap, ◌∙◌}
use Rattle.std.specs.Prelude.{if◌then◌else◌}
use Rattle.html_dom_tree.specs.Tree.{Head, tag_node, text_node, element_node, frame_node, NodesView, none, node}
use Rattle.html_dom_walk.specs.{Events.{Placed, tag, text, frame, enter, leave, events_of, from_end}, Passing.{Goes, past}}
use Rattle.html_dom_walk.specs.WalkLaws.{PastIs, SkippedIs}

module _ {S : Type 0} (step : S → Placed → S) (skips : S → Head → Bool) where
  -- below an element that is left out nothing counts
  hidden_past : (hidden : ℕ) (s : S) (parent : List ℕ) (index : ℕ) (ns : NodesView)
      (later : List Placed) → past step skips (suc hidden) s (events_of parent index ns later)
      ≡ past step skips (suc hidden) s later
  unfolding events_of
  hidden_past hidden s parent index none later = refl
  hidden_past hidden s parent index (node (tag_node t) ns) later =
      hidden_past hidden s parent (suc index) ns later
  hidden_past hidden s parent index (node (text_node x span) ns) later =
      hidden_past hidden s parent (suc index) ns later
  hidden_past hidden s parent index (node (frame_node f) ns) later =
      hidden_past hidden s parent (suc index) ns later
  hidden_past hidden s parent index (node (element_node h kids) ns) later =
      let path = parent ++ index ∷ [] in
      hidden_past (suc hidden) s path 0 kids ((path, leave) ∷ events_of parent (suc index) ns later)
      ∙ hidden_past hidden s parent (suc index) ns later

  ends_hidden : (hidden : ℕ) (s : S) (es : List Placed) →
      past step skips (suc hidden) s es ≡ past step skips 0 s (from_end hidden es)
  ends_hidden hidden s [] = refl
  ends_hidden zero s ((path, leave) ∷ later) = refl
  ends_hidden (suc hidden) s ((path, leave) ∷ later) = ends_hidden hidden s later
  ends_hidden hidden s ((path, enter h kids) ∷ later) = ends_hidden (suc hidden) s later
  ends_hidden hidden s ((path, tag t) ∷ later) = ends_hidden hidden s later
  ends_hidden hidden s ((path, text x span) ∷ later) = ends_hidden hidden s later
  ends_hidden hidden s ((path, frame f) ∷ later) = ends_hidden hidden s later

  -- an element, given what holds inside it and after it
  element_past : (nodes_past : List ℕ → ℕ → S → NodesView → S) → Goes step skips nodes_past →
      (parent : List ℕ) (index : ℕ) (s : S) (h : Head) (kids ns : NodesView)
      (rest later : List Placed) (is_skipped : Bool) → skips s h ≡ is_skipped →
      let path = parent ++ index ∷ [] in
      let inside = step s (path, enter h kids) in
      (past step skips 0 inside (events_of path 0 kids ((path, leave) ∷ rest))
      ≡ past step skips 0 (nodes_past path 0 inside kids) ((path, leave) ∷ rest)) →
      ((t : S) → past step skips 0 t rest
      ≡ past step skips 0 (nodes_past parent (suc index) t ns) later) →
      past step skips (if is_skipped then 1 else 0) inside
      (events_of path 0 kids ((path, leave) ∷ rest))
      ≡ past step skips 0 (nodes_past parent index s (node (element_node h kids) ns)) later
  element_past nodes_past goes parent index s h kids ns rest later true is within after =
      let path = parent ++ index ∷ [] in
      let inside = step s (path, enter h kids) in
      hidden_past 0 inside path 0 kids ((path, leave) ∷ rest)
      ∙ (after (step inside (path, leave))
      ∙ ap (λ t. past step skips 0 t later) (sym (goes.at_skipped parent index s h kids ns is)))
  element_past nodes_past goes parent index s h kids ns rest later false is within after =
      let path = parent ++ index ∷ [] in
      within ∙ (after (step (nodes_past path 0 (step s (path, enter h kids)) kids) (path, leave))
      ∙ ap (λ t. past step skips 0 t later) (sym (goes.at_element parent index s h kids ns is)))

pub skipped_is : {S : Type 0} → SkippedIs S
skipped_is step skips s es = ends_hidden step skips 0 s es

pub past_is : {S : Type 0} → PastIs S
unfolding events_of
past_is step skips nodes_past goes parent index s none later =
    ap (λ t. past step skips 0 t later) (sym (goes.at_none parent index s))
past_is step skips nodes_past goes parent index s (node (tag_node t) ns) later =
    past_is step skips nodes_past goes parent (suc index) (step s (parent ++ index ∷ [], tag t))
    ns later
    ∙ ap (λ u. past step skips 0 u later) (sym (goes.at_tag parent index s t ns))
past_is step skips nodes_past goes parent index s (node (text_node x span) ns) later =
    past_is step skips nodes_past goes parent (suc index)
    (step s (parent ++ index ∷ [], text x span)) ns later
    ∙ ap (λ u. past step skips 0 u later) (sym (goes.at_text parent index s x span ns))
past_is step skips nodes_past goes parent index s (node (frame_node f) ns) later =
    past_is step skips nodes_past goes parent (suc index) (step s (parent ++ index ∷ [], frame f))
    ns later
    ∙ ap (λ u. past step skips 0 u later) (sym (goes.at_frame parent index s f ns))
past_is step skips nodes_past goes parent index s (node (element_node h kids) ns) later =
    let path = parent ++ index ∷ [] in
    let rest = events_of parent (suc index) ns later in
    element_past step skips nodes_past goes parent index s h kids ns rest later (skips s h) refl
    (past_is step skips nodes_past goes path 0 (step s (path, enter h kids)) kids
    ((path, leave) ∷ rest))
    (λ t. past_is step skips nodes_past goes parent (suc index) t ns later)
