-- What a loop over a walk hands to a sink.
use Rattle.std.proofs.{Common.{◌≡◌, ℕ, Bool, true, false, List, [], ◌∷◌, ◌++◌, refl, sym, ap, ◌∙◌, append_assoc}, Math.Path.{fun_ext}}
use Rattle.std.specs.Prelude.{not, if◌then◌else◌, Option, None, Some}
use Rattle.html_dom_tree.specs.{Taking.{Takes}, Tree.{NodesView, ElementView}}
use Rattle.html_dom_walk.{proofs.Passing.{past_is, skipped_is}, proofs.Skipping.{past_nodes}, specs.Passing.{Goes, past}}
use Rattle.html_dom_walk.specs.Events.{Event, tag, text, frame, enter, leave, events_of, from_end}
use Rattle.html_dom_walk.specs.{Walks.{Comes, event_of}, declared.walk.Visit.{Visit}}
use Rattle.html_links.{proofs.PutPlaces.{leaves_out}, specs.InDocument.{kept, keeps, node_part, nodes_part}}
use Rattle.html_page_findings.specs.PlacedTexts.{Placed, TextKind, document_placed, head_texts, node_placed, nodes_placed, placed_at}
use Rattle.html_page_findings.specs.VisitedTexts.{event_placed, left_after}

-- the events from a visit on
abbrev pub ahead : Option Visit → (path : List ℕ) → (later : List (List ℕ × Event)) →
    List (List ℕ × Event)
ahead None path later = []
ahead (Some v) path later = (path, event_of v) ∷ later

pub comes_ahead : (events : List (List ℕ × Event)) (v : Option Visit) (path : List ℕ)
    (left : List (List ℕ × Event)) → Comes events v path left → ahead v path left ≡ events
comes_ahead events None path left is = sym is.0
comes_ahead events (Some v) path left is = sym is

module _ {Made : Type 0} (kind : TextKind) where
  -- what is made of any rest after the texts at an event
  abbrev with_event : (made : List Placed → Made) → List ℕ × Event → List Placed → Made
  with_event made e = λ rest. made (event_placed kind e.0 e.1 ++ rest)

  -- and after those at all events in the document
  abbrev pub all_made : (made : List Placed → Made) → List (List ℕ × Event) → List Placed → Made
  all_made = past with_event (leaves_out false) 0

  abbrev with_nodes : (parent : List ℕ) (index : ℕ) → (made : List Placed → Made) → NodesView →
      List Placed → Made
  with_nodes parent index made ns =
      λ rest. made (nodes_placed kind parent index (nodes_part false ns) ++ rest)

  element_made : (is_kept left_out : Bool) (path : List ℕ) (part : NodesView)
      (own later : List Placed) (made : List Placed → Made) → not is_kept ≡ left_out →
      (rest : List Placed) →
      made (((own ++ nodes_placed kind path 0 (kept is_kept part)) ++ later) ++ rest)
      ≡ made (own ++ ((if left_out then [] else nodes_placed kind path 0 part) ++ (later ++ rest)))
  unfolding nodes_placed
  element_made true false path part own later made is rest = simp append_assoc
  element_made false true path part own later made is rest = simp append_assoc
  element_made true true path part own later made is rest = cc
  element_made false false path part own later made is rest = cc

  goes_on : Goes with_event (leaves_out false) with_nodes
  unfolding nodes_placed node_placed nodes_part node_part
  goes_on = record {
    at_none = λ parent index made. refl;
    at_tag = λ parent index made t ns. refl;
    at_text = λ parent index made s span ns. refl;
    at_frame = λ parent index made f ns. fun_ext (λ rest.
        ap made (append_assoc (placed_at (parent ++ index ∷ []) (kind.framed f)) _ rest));
    at_element = λ parent index made h kids ns is. fun_ext (element_made (keeps false h.name) false
        (parent ++ index ∷ []) (nodes_part false kids) _ _ made is);
    at_skipped = λ parent index made h kids ns is. fun_ext (element_made (keeps false h.name) true
        (parent ++ index ∷ []) (nodes_part false kids) _ _ made is);
  }

  -- a root and what is below it, if that is in the document
  root_made : (is_kept : Bool) (made : List Placed → Made) (own : List Placed) (ns : NodesView) →
      Takes made (past with_event (leaves_out false) (if not is_kept then 1 else 0)
      (λ rest. made (own ++ rest)) (events_of [] 0 ns []))
      (own ++ nodes_placed kind [] 0 (kept is_kept (nodes_part false ns)))
  unfolding nodes_placed
  root_made true made own ns rest =
      ap (λ (f : List Placed → Made). f rest) (past_is with_event (leaves_out false) with_nodes
      goes_on [] 0 (λ rest. made (own ++ rest)) ns [])
      ∙ simp append_assoc
  root_made false made own ns rest =
      ap (λ (f : List Placed → Made). f rest) (skipped_is with_event (leaves_out false)
      (λ rest. made (own ++ rest)) (events_of [] 0 ns [])
      ∙ ap (all_made (λ rest. made (own ++ rest))) (past_nodes 0 [] 0 ns []))
      ∙ simp append_assoc

  pub root_taken : (made : List Placed → Made) (e : ElementView) (path : List ℕ)
      (events : List (List ℕ × Event)) → path ≡ [] → events ≡ events_of [] 0 e.1 [] →
      Takes made (all_made made ((path, enter e.0 e.1) ∷ events)) (document_placed kind e)
  unfolding node_placed
  root_taken made e path events at_root is rest =
      ap (λ p. all_made made ((p, enter e.0 e.1) ∷ events) rest) at_root
      ∙ (ap (λ es. all_made made (([], enter e.0 e.1) ∷ es) rest) is
      ∙ root_made (keeps false e.0.name) made (placed_at [] (head_texts kind e.0)) e.1 rest)

  keeps_made : (is_kept : Bool) (made : List Placed → Made) (later : List (List ℕ × Event)) →
      all_made made (if is_kept then later else from_end 0 later)
      ≡ past with_event (leaves_out false) (if not is_kept then 1 else 0) made later
  keeps_made true made later = refl
  keeps_made false made later = sym (skipped_is with_event (leaves_out false) made later)

  turn_made : (made : List Placed → Made) (path : List ℕ) (e : Event)
      (later : List (List ℕ × Event)) →
      all_made (with_event made (path, e)) (left_after e later) ≡ all_made made ((path, e) ∷ later)
  turn_made made path (enter h kids) later =
      keeps_made (keeps false h.name) (with_event made (path, enter h kids)) later
  turn_made made path (tag t) later = refl
  turn_made made path (text s span) later = refl
  turn_made made path (frame f) later = refl
  turn_made made path leave later = refl

  -- a turn of the loop
  pub turn_taken : (first old new : List Placed → Made) (all : List Placed) (path : List ℕ)
      (e : Event) (later left : List (List ℕ × Event)) →
      Takes first (all_made old ((path, e) ∷ later)) all →
      Takes old new (event_placed kind path e) → left ≡ left_after e later →
      Takes first (all_made new left) all
  turn_taken first old new all path e later left so_far more is rest =
      ap (λ es. all_made new es rest) is
      ∙ (ap (λ f. all_made f (left_after e later) rest) (fun_ext more)
      ∙ (ap (λ (f : List Placed → Made). f rest) (turn_made old path e later) ∙ so_far rest))
