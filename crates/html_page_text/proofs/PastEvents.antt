-- The progress past the events of nodes is that past the nodes.
use Rattle.std.proofs.Common.{◌≡◌, ℕ, Bool, true, false, not, ◌&&◌, ◌||◌, List, [], ◌∷◌, refl, ap, sym, ◌∙◌}
use Rattle.std.specs.Prelude.{if◌then◌else◌}
use Rattle.html_names_core.specs.Kinds.{is_line_break, is_replaced}
use Rattle.html_dom_tree.specs.{PlainTree.{nodes_normal}, Tree.{Head, text_node, element_node, NodesView, node}}
use Rattle.html_dom_shown.proofs.NodeAtoms.{normal_atoms}
use Rattle.html_dom_shown.specs.Collapsing.{Atom, object, break, border, preserves, has_border, bordered_atoms, element_atoms, plains_atoms}
use Rattle.html_dom_walk.proofs.Passing.{past_is, skipped_is}
use Rattle.html_dom_walk.specs.{Events.{Event, Placed, tag, text, frame, enter, leave, events_of, from_end}, Passing.{Goes, past}}
use Rattle.html_page_text.proofs.Gathering.{past_all, past_first, run-append}
use Rattle.html_page_text.specs.{Gathering.{Seen, border_atoms, past_nodes, run, step}, Unseen.{is_unseen, seen_nodes}}
use Rattle.html_page_text.specs.Progress.{Progress, ends_in_border, has_no_content, is_skipped, past_event, progress_past, started}

-- an element: what is visible up to its content, its content, and a border
element_run : (broken bordered replaced : Bool) (name : List ℕ) (s : Seen) (inner : List Atom) →
    let begun = run s (border_atoms bordered) in
    run s (if broken then break ∷ [] else bordered_atoms bordered
    (if replaced then object name ∷ [] else inner))
    ≡ run (run (if broken then step s break
    else (if replaced then step begun (object name) else begun))
    (if broken || replaced then [] else inner)) (border_atoms (not broken && bordered))
unfolding run
element_run true bordered replaced name s inner = refl
element_run false false true name s inner = refl
element_run false false false name s inner = refl
element_run false true true name s inner = refl
element_run false true false name s inner = run-append (step s border) inner (border ∷ [])

module _ (preserved : Bool) (s : Seen) (h : Head) (kids ns : NodesView) where
  abbrev kept : Bool
  kept = preserved || preserves h.name h.attrs

  -- past the element's start, its content, its end, and the nodes behind it
  abbrev after : (skipped : Bool) → Seen
  after skipped = past_nodes preserved (run (run (started s h) (if skipped then []
      else plains_atoms kept (nodes_normal (seen_nodes kids)))) (border_atoms (ends_in_border h))) ns

  by_unseen : (unseen : Bool) → is_unseen h.name h.attrs ≡ unseen →
      past_nodes preserved s (node (element_node h kids) ns) ≡ after (has_no_content h)
  unfolding run seen_nodes
  by_unseen true e = rw e refl
  by_unseen false e =
      let name = h.name in
      let inner = seen_nodes kids in
      let later = seen_nodes ns in
      rw e (past_first preserved s (element_node h inner) later
      ∙ ap (λ t. past_all preserved t later)
      (ap (λ l. run s (element_atoms name h.attrs l)) (sym (normal_atoms inner kept))
      ∙ element_run (is_line_break name) (has_border name h.attrs) (is_replaced name) name s
      (plains_atoms kept (nodes_normal inner))))

  element_past : (skipped : Bool) → has_no_content h ≡ skipped →
      past_nodes preserved s (node (element_node h kids) ns) ≡ after skipped
  element_past skipped is = by_unseen (is_unseen h.name h.attrs) refl ∙ ap after is

abbrev step_past : Progress → Placed → Progress
step_past p e = past_event p e.1

abbrev skips : Progress → Head → Bool
skips p h = has_no_content h

-- the progress past events
abbrev pub past_events : Progress → List Placed → Progress
past_events p es = past step_past skips 0 p es

goes : Goes step_past skips (λ parent index p ns. progress_past p ns)
unfolding run nodes_normal seen_nodes
goes = record {
  at_none = λ parent index p. refl;
  at_tag = λ parent index p t ns. refl;
  at_text = λ parent index p x span ns. ap (λ s. record p { seen = s })
      (past_first p.preserved p.seen (text_node x span) (seen_nodes ns));
  at_frame = λ parent index p f ns. refl;
  at_element = λ parent index p h kids ns is. ap (λ s. record p { seen = s })
      (element_past p.preserved p.seen h kids ns false is);
  at_skipped = λ parent index p h kids ns is. ap (λ s. record p { seen = s })
      (element_past p.preserved p.seen h kids ns true is);
}

pub events_are : (p : Progress) (ns : NodesView) →
    past_events p (events_of [] 0 ns []) ≡ progress_past p ns
events_are p ns =
    past_is step_past skips (λ parent index q ms. progress_past q ms) goes [] 0 p ns []

by_skip : (b : Bool) (p : Progress) (es : List Placed) →
    past_events p (if b then from_end 0 es else es) ≡ past step_past skips (if b then 1 else 0) p es
by_skip true p es = sym (skipped_is step_past skips p es)
by_skip false p es = refl

first_past : (p : Progress) (e : Placed) (later : List Placed) →
    past_events (past_event p e.1) (if is_skipped e.1 then from_end 0 later else later)
    ≡ past_events p (e ∷ later)
first_past p (path, tag t) later = refl
first_past p (path, text x span) later = refl
first_past p (path, frame f) later = refl
first_past p (path, leave) later = refl
first_past p (path, enter h kids) later =
    by_skip (has_no_content h) (past_event p (enter h kids)) later

-- a turn of the walk goes past the first of the events
pub turn_past : (p q : Progress) (events left later : List Placed) (path : List ℕ) (e : Event)
    (skipped : Bool) → events ≡ (path, e) ∷ later → q ≡ past_event p e → skipped ≡ is_skipped e →
    left ≡ (if skipped then from_end 0 later else later) → past_events q left ≡ past_events p events
turn_past p q events left later path e skipped comes passed is left_is =
    ap (past_events q) left_is
    ∙ (ap (λ b. past_events q (if b then from_end 0 later else later)) is
    ∙ (ap (λ t. past_events t (if is_skipped e then from_end 0 later else later)) passed
    ∙ (first_past p (path, e) later ∙ ap (past_events p) (sym comes))))
