-- Runs of blanks, as they are found.
use Rattle.std.proofs.Common.{◌≡◌, Bool, true, false, ◌||◌, List, [], ◌∷◌, ◌++◌, inl, inr, refl, ap, append_assoc, append-nil}
use Rattle.std.{proofs.lemmas.Bool.{cases_Bool, false≢true, true≢false, or_from}, specs.List.{filter}}
use Rattle.html_dom_tree.specs.Tree.{NodeView, tag_node, text_node, element_node, frame_node, is_tag}
use Rattle.html_flow_convert.specs.{Nodes.{is_one}, OpenRuns.{goes_on, has_kept_run}}
use Rattle.html_flow_convert.specs.Runs.{is_blank_node, are_kept, run_nodes, front_nodes, blank_front, after_front, nodes_with_runs}

-- whether blanks are kept, after a space or at the start
abbrev pub kept_after : (space : Bool) (blanks : List NodeView) → Bool
kept_after true [] = false
kept_after true (n ∷ ns) = true
kept_after false ns = are_kept ns

-- no run begins with a tag
abbrev pub begins_with_tag : List NodeView → Bool
begins_with_tag [] = false
begins_with_tag (n ∷ ns) = is_tag n

pub run_is : (run : List NodeView) → begins_with_tag run ≡ false →
    front_nodes run ≡ run_nodes run
run_is [] h = refl
run_is (n ∷ ns) h = rw h refl

-- nodes that are made, an open run, and what is left
abbrev pub runs_of : (made run left : List NodeView) → List NodeView
runs_of made run left = made ++ (front_nodes (run ++ blank_front left) ++ after_front left)

-- a blank or a tag goes on with the run
pub run_goes_on : (made run left : List NodeView) (n : NodeView) →
    (is_blank_node n || is_tag n) ≡ true →
    runs_of made run (n ∷ left) ≡ runs_of made (run ++ n ∷ []) left
unfolding blank_front after_front
run_goes_on made run left n h = rw (h, append_assoc) refl

pub goes_on_node : (run : List NodeView) (n : NodeView) → goes_on run n ≡ true →
    (is_blank_node n || is_tag n) ≡ true
goes_on_node [] n h = rw h refl
goes_on_node (m ∷ run) n h = h

blank_is_no_tag : (n : NodeView) → is_blank_node n ≡ true → is_tag n ≡ false
blank_is_no_tag (tag_node t) h = absurd (false≢true h)
blank_is_no_tag x h = refl

pub begins_on : (run : List NodeView) (n : NodeView) → begins_with_tag run ≡ false →
    goes_on run n ≡ true → begins_with_tag (run ++ n ∷ []) ≡ false
begins_on [] n h on = blank_is_no_tag n on
begins_on (m ∷ run) n h on = h

ends_at_other : (made run left : List NodeView) (n : NodeView) → begins_with_tag run ≡ false →
    (is_blank_node n || is_tag n) ≡ false →
    runs_of made run (n ∷ left) ≡ runs_of ((made ++ run_nodes run) ++ n ∷ []) [] left
unfolding blank_front after_front
ends_at_other made run left n h other =
    rw (other, append-nil run, run_is run h, append_assoc (made ++ run_nodes run) (n ∷ []))
    (rw (append_assoc made (run_nodes run)) refl)

-- a tag, or another node, where no run is open
ends_by : (tag : Bool) (made left : List NodeView) (n : NodeView) → is_tag n ≡ tag →
    is_blank_node n ≡ false →
    runs_of made [] (n ∷ left) ≡ runs_of ((made ++ run_nodes []) ++ n ∷ []) [] left
unfolding blank_front after_front
ends_by true made left n e h = rw (h, e, e, append-nil made, append_assoc made (n ∷ [])) refl
ends_by false made left n e h =
    ends_at_other made [] left n refl (or_from (is_blank_node n) (is_tag n) h e)

pub run_ends : (made run left : List NodeView) (n : NodeView) → begins_with_tag run ≡ false →
    goes_on run n ≡ false →
    runs_of made run (n ∷ left) ≡ runs_of ((made ++ run_nodes run) ++ n ∷ []) [] left
run_ends made [] left n h other = ends_by (is_tag n) made left n refl other
run_ends made (m ∷ run) left n h other = ends_at_other made (m ∷ run) left n h other

pub runs_end : (made run : List NodeView) → begins_with_tag run ≡ false →
    runs_of made run [] ≡ made ++ run_nodes run
unfolding blank_front after_front
runs_end made run h = rw (append-nil run, run_is run h, append-nil) refl

-- nodes without a run of kept blanks stay
mutual
  unfolding blank_front after_front

  pub runs_stay : (ns : List NodeView) → has_kept_run false ns ≡ false → ns ≡ nodes_with_runs ns
  runs_stay [] e = refl
  runs_stay (tag_node t ∷ ns) e = ap (λ l. tag_node t ∷ l) (runs_stay ns e)
  runs_stay (text_node s span ∷ ns) e = elim (cases_Bool (is_one 9 s)) [
    | inl tab ↦ absurd (true≢false (rw tab at e))
    | inr other ↦ elim (cases_Bool (is_one 32 s)) [
      | inl blank ↦
          let left = run_stays ns (rw (other, blank) at e) in
          rw (blank, left.0, blank, other) (ap (λ l. text_node s span ∷ l) left.1)
      | inr shown ↦
          rw (shown, other) (ap (λ l. text_node s span ∷ l) (runs_stay ns (rw (other, shown) at e)))
    ]
  ]
  runs_stay (element_node h ks ∷ ns) e = ap (λ l. element_node h ks ∷ l) (runs_stay ns e)
  runs_stay (frame_node f ∷ ns) e = ap (λ l. frame_node f ∷ l) (runs_stay ns e)

  run_stays : (ns : List NodeView) → has_kept_run true ns ≡ false →
      (filter is_blank_node (blank_front ns) ≡ []) × (ns ≡ blank_front ns ++ after_front ns)
  run_stays [] e = (refl, refl)
  run_stays (tag_node t ∷ ns) e =
      let left = run_stays ns e in (left.0, ap (λ l. tag_node t ∷ l) left.1)
  run_stays (text_node s span ∷ ns) e = elim (cases_Bool (is_one 9 s)) [
    | inl tab ↦ absurd (true≢false (rw tab at e))
    | inr other ↦ elim (cases_Bool (is_one 32 s)) [
      | inl blank ↦ absurd (true≢false (rw (other, blank) at e))
      | inr shown ↦
          let left = runs_stay ns (rw (other, shown) at e) in
          (rw (shown, other) refl, rw (shown, other) (ap (λ l. text_node s span ∷ l) left))
    ]
  ]
  run_stays (element_node h ks ∷ ns) e =
      (refl, ap (λ l. element_node h ks ∷ l) (runs_stay ns e))
  run_stays (frame_node f ∷ ns) e = (refl, ap (λ l. frame_node f ∷ l) (runs_stay ns e))
