-- What holds of each node of a list once its runs of blanks are kept.
use Rattle.std.proofs.{Common.{◌≡◌, true, false, ◌||◌, List, [], ◌∷◌, inl, inr}, lemmas.Bool.{cases_Bool}}
use Rattle.html_dom_tree.specs.Tree.{NodeView, is_tag}
use Rattle.html_flow_convert.specs.Runs.{is_blank_node, run_nodes, front_nodes, blank_front, after_front, nodes_with_runs}
use Rattle.typst_html_spaces.proofs.Each.{Each, Each-append}

-- a tag or a blank
abbrev pub IsInRun : NodeView → Type 0
IsInRun n = (is_blank_node n || is_tag n) ≡ true

-- what holds after runs are kept, by what holds before: of a run, of a tag that stands in front of
-- one, and of each other node
module _ (Before After : NodeView → Type 0)
    (run : (ns : List NodeView) → Each IsInRun ns → Each Before ns → Each After (run_nodes ns))
    (tag : (n : NodeView) → is_tag n ≡ true → Before n → After n)
    (other : (n : NodeView) → (is_blank_node n || is_tag n) ≡ false → Before n → After n) where
  of_run : (ns : List NodeView) → Each IsInRun ns → Each Before ns → Each After (front_nodes ns)
  of_run [] e r = tt
  of_run (n ∷ ns) e r = elim (cases_Bool (is_tag n)) [
    | inl f ↦ rw f (tag n f r.0, of_run ns e.1 r.1)
    | inr f ↦ rw f (run (n ∷ ns) e r)
  ]

  in_front : (ns : List NodeView) → Each Before ns →
      Each IsInRun (blank_front ns) × Each Before (blank_front ns)
  unfolding blank_front
  in_front [] r = (tt, tt)
  in_front (n ∷ ns) r = elim (cases_Bool (is_blank_node n || is_tag n)) [
    | inl e ↦ let more = in_front ns r.1 in rw e ((e, more.0), (r.0, more.1))
    | inr e ↦ rw e (tt, tt)
  ]

  of_front : (ns : List NodeView) → Each Before ns → Each After (front_nodes (blank_front ns))
  of_front ns r = let front = in_front ns r in of_run (blank_front ns) front.0 front.1

  of_rest : (ns : List NodeView) → Each Before ns → Each After (after_front ns)
  unfolding after_front
  of_rest [] r = tt
  of_rest (n ∷ ns) r = elim (cases_Bool (is_blank_node n || is_tag n)) [
    | inl e ↦ rw e (of_rest ns r.1)
    | inr e ↦ rw e (
      other n e r.0,
      Each-append After (front_nodes (blank_front ns)) (after_front ns) (of_front ns r.1)
          (of_rest ns r.1),
    )
  ]

  pub of_each_run : (ns : List NodeView) → Each Before ns → Each After (nodes_with_runs ns)
  of_each_run ns r =
      Each-append After (front_nodes (blank_front ns)) (after_front ns) (of_front ns r) (of_rest ns r)
