-- The names that locations get are those of what serves them in the new tree.
use Rattle.std.proofs.Common.{◌≡◌, ℕ, suc, Bool, true, false, List, [], ◌∷◌, ◌++◌, length, Option, Some, None, refl, ap, sym, subst, ◌∙◌, append_assoc}
use Rattle.std.{proofs.lemmas.List.{append-nil}, specs.Prelude.{if◌then◌else◌}}
use Rattle.html_dom_tree.specs.{Attributes.{or_else}, Frames.{PointView}}
use Rattle.html_dom_tree.specs.Tree.{Head, NodeView, starts, ends, tag_node, text_node, element_node, frame_node, NodesView, none, node, ElementView}
use Rattle.html_names_core.{proofs.Basics.{last_dropped}, specs.Names.{stands_in}}
use Rattle.html_dom_document.specs.Documents.{DocumentView, document_root}
use Rattle.html_anchors.proofs.{ChangedRoots.{root_has_links}, LeadingLinks.{id_stays}, Showing.{answers-append}}
use Rattle.html_anchors.proofs.States.{Groups, naming_at, step, finished, finished-append, makes, makes_is, makes-append, drop-events}
use Rattle.html_anchors.specs.Anchors.{with_id, text_in_span, span_before, nodes_with_anchors, element_namings, element_with_anchors, anchor_of}
use Rattle.html_anchors.specs.Events.{Start, FrameStart, end_tag, element, text, html_frame, Targets, start_event, frame_starts, events}
use Rattle.html_anchors.specs.{Groups.{is_in_group, first_label, label_of}, LinkAnchors.{document_targets}}
use Rattle.html_anchors.specs.Links.{Hrefs, dest_before, document_hrefs, document_with_links, nodes_with_links, node_with_links}
use Rattle.html_anchors.specs.Namings.{Naming, made_for, group_answers, start_pairs, start_answers, with_made, all_answers, last_name}
use Rattle.html_anchors.specs.NewNames.{new_name}
use Rattle.html_anchors.specs.Serving.{AnchorsServe, KnownAnchorsServe, Mark, start_mark, place_mark, inner_marks, marks, name_entries, next_name, paired_marks, served_names, start_marks}
use Rattle.html_links.specs.TreeNames.{Name, with_used_name, first_id, element_names}

-- the start tags that wait get the next name
abbrev waiting_names : List Start → Option Name → List (ℕ × Name)
waiting_names [] name = []
waiting_names (s ∷ ss) name = name_entries s.location name ++ waiting_names ss name

-- what is named behind start tags that wait
abbrev served_behind : List Start → List Mark → List (ℕ × Name)
served_behind q ms = waiting_names q (next_name ms) ++ served_names ms

answered_is_waiting : (name : Option Name) (q : List Start) → waiting_names q name ≡ group_answers name q
answered_is_waiting None [] = refl
answered_is_waiting None (s ∷ ss) = answered_is_waiting None ss
answered_is_waiting (Some n) [] = refl
answered_is_waiting (Some n) (s ∷ ss) = ap (λ l. (s.location, n) ∷ l) (answered_is_waiting (Some n) ss)

waiting-append : (q r : List Start) (name : Option Name) →
    waiting_names (q ++ r) name ≡ waiting_names q name ++ waiting_names r name
waiting-append [] r name = refl
waiting-append (s ∷ ss) r name =
    ap (λ l. name_entries s.location name ++ l) (waiting-append ss r name)
    ∙ sym (append_assoc (name_entries s.location name) (waiting_names ss name) (waiting_names r name))

start_waits : (q : List Start) (s : Start) (ms : List Mark) →
    served_behind q (start_mark s.location ∷ ms) ≡ served_behind (q ++ s ∷ []) ms
start_waits q s ms =
    let name = next_name ms in
    sym (append_assoc (waiting_names q name) (name_entries s.location name) (served_names ms))
    ∙ ap (λ l. l ++ served_names ms)
    (ap (λ l. waiting_names q name ++ l) (sym (append-nil (name_entries s.location name)))
    ∙ sym (waiting-append q (s ∷ []) name))

-- what waits is named after what stands next
place_served : (q : List Start) (name : Option Name) (ms : List Mark)
    (inner later last : List (ℕ × Name)) → served_names ms ≡ inner ++ (later ++ last) →
    served_behind q (place_mark name ∷ ms) ≡ ((group_answers name q ++ inner) ++ later) ++ last
place_served q name ms inner later last is =
    let now = group_answers name q in
    ap (λ l. l ++ served_names ms) (answered_is_waiting name q)
    ∙ (ap (λ l. now ++ l) is
    ∙ (sym (append_assoc now inner (later ++ last))
    ∙ sym (append_assoc (now ++ inner) later last)))

nothing_answered : (name : Option Name) → group_answers name [] ≡ []
nothing_answered None = refl
nothing_answered (Some n) = refl

module _ (x : Targets) where
  start_served : (is_target : Bool) (l : ℕ) (label : Option Name) (g : Groups) (new : NodesView)
      (rest : List Mark) (later last : List (ℕ × Name)) →
      let e = start_event is_target l label in
      served_behind (step g e).queue (marks x new ++ rest) ≡ later ++ last →
      served_behind g.queue
      ((start_marks is_target l ++ marks x (span_before (naming_at g e).made new)) ++ rest)
      ≡ ((naming_at g e).answers ++ later) ++ last
  start_served true l label g new rest later last is =
      start_waits g.queue (record { location = l; label = label }) (marks x new ++ rest) ∙ is
  start_served false l label g new rest later last is = is

  -- behind an end tag, which serves where one of its location waits
  end_served : (here : Bool) (l : ℕ) (used : Name → Bool) (q : List Start) (new : NodesView)
      (rest : List Mark) (later last : List (ℕ × Name)) →
      let group = if here then q else [] in
      let made = made_for None (label_of l group) used group in
      served_behind (if here then [] else q) (marks x new ++ rest) ≡ later ++ last →
      served_behind q (marks x (span_before made new) ++ rest)
      ≡ ((group_answers made group ++ []) ++ later) ++ last
  unfolding marks
  end_served false l used q new rest later last is = is
  end_served true l used [] new rest later last is = is
  end_served true l used (s ∷ ss) new rest later last is =
      let n = new_name (label_of l (s ∷ ss)) used in
      place_served (s ∷ ss) (Some n) (marks x new ++ rest) [] later last is

  text_served : (label : Option Name) (used : Name → Bool) (q : List Start) (s : List ℕ)
      (span : ℕ) (new : NodesView) (rest : List Mark) (later last : List (ℕ × Name)) →
      let made = made_for None label used q in
      served_names (marks x new ++ rest) ≡ later ++ last →
      served_behind q (marks x (node (text_in_span made s span) new) ++ rest)
      ≡ ((group_answers made q ++ []) ++ later) ++ last
  unfolding marks
  text_served label used [] s span new rest later last is = is
  text_served label used (t ∷ ts) s span new rest later last is =
      let n = new_name label used in
      place_served (t ∷ ts) (Some n) (place_mark None ∷ marks x new ++ rest) [] later last is

-- an element serves with its first `id`, which is a new one or its own
head_answers : (h : Head) (own label : Option Name) (used : Name → Bool) (q : List Start) →
    first_id h ≡ own → let made = made_for own label used q in
    group_answers (first_id (with_id made h)) q ≡ group_answers (or_else own made) q
head_answers h own label used [] is =
    nothing_answered (first_id (with_id (made_for own label used []) h))
    ∙ sym (nothing_answered (or_else own (made_for own label used [])))
head_answers h None label used (s ∷ ss) is = refl
head_answers h (Some n) label used (s ∷ ss) is = ap (λ name. group_answers name (s ∷ ss)) is

length-pairs : (ss : List FrameStart) (used : Name → Bool) →
    length ss ≡ length (start_pairs used ss)
length-pairs [] used = refl
length-pairs (s ∷ ss) used = ap suc (length-pairs ss (with_used_name (new_name s.label used) used))

starts_served : (ss : List FrameStart) (used : Name → Bool) (ms : List Mark) →
    served_names (paired_marks ss (start_pairs used ss) ++ ms)
    ≡ start_answers used ss ++ served_names ms
starts_served [] used ms = refl
starts_served (s ∷ ss) used ms =
    let n = new_name s.label used in
    ap (λ l. (s.location, n) ∷ l) (starts_served ss (with_used_name n used) ms)

inner_served : (ss : List FrameStart) (used : Name → Bool) (old : List (PointView × Name))
    (ms : List Mark) →
    served_names (inner_marks ss (old ++ start_pairs used ss) ++ ms)
    ≡ start_answers used ss ++ served_names ms
inner_served ss used old ms =
    let pairs = start_pairs used ss in
    ap (λ as'. served_names (paired_marks ss as' ++ ms))
    (last_dropped old pairs (length ss) (sym (length-pairs ss used)))
    ∙ starts_served ss used ms

all_served : (x : Targets) (ns : NodesView) (g : Groups) (more : List Naming)
    (rest : List Mark) →
    served_behind g.queue (marks x (nodes_with_anchors (makes g (events x ns) ++ more) ns) ++ rest)
    ≡ all_answers (makes g (events x ns))
    ++ served_behind (finished g (events x ns)).queue rest
unfolding events nodes_with_anchors marks
all_served x none g more rest = refl
all_served x (node (tag_node (starts l label dest)) ns) g more rest =
    let t = step g (start_event (x.is_target l) l label) in
    let later = makes t (events x ns) in
    start_served x (x.is_target l) l label g (nodes_with_anchors (later ++ more) ns) rest
    (all_answers later) (served_behind (finished t (events x ns)).queue rest)
    (all_served x ns t more rest)
all_served x (node (tag_node (ends l)) ns) g more rest =
    let t = step g (end_tag l) in
    let later = makes t (events x ns) in
    end_served x (is_in_group l g.queue) l g.used g.queue (nodes_with_anchors (later ++ more) ns) rest
    (all_answers later) (served_behind (finished t (events x ns)).queue rest)
    (all_served x ns t more rest)
all_served x (node (text_node s span) ns) g more rest =
    let t = step g text in
    let later = makes t (events x ns) in
    text_served x (first_label g.queue) g.used g.queue s span (nodes_with_anchors (later ++ more) ns)
    rest (all_answers later) (served_behind (finished t (events x ns)).queue rest)
    (all_served x ns t more rest)
all_served x (node (element_node h kids) ns) g more rest =
    let own = first_id h in
    let label = first_label g.queue in
    let made = made_for own label g.used g.queue in
    let t = step g (element own) in
    let u = finished t (events x kids) in
    let inside = makes t (events x kids) in
    let after = makes u (events x ns) in
    let below = marks x (nodes_with_anchors (inside ++ (after ++ more)) kids) in
    let behind = marks x (nodes_with_anchors (after ++ more) ns) in
    let last = served_behind (finished u (events x ns)).queue rest in
    let later = all_answers inside ++ all_answers after in
    let both : served_names ((below ++ behind) ++ rest) ≡ later ++ last =
    ap served_names (append_assoc below behind rest)
    ∙ (all_served x kids t (after ++ more) (behind ++ rest)
    ∙ (ap (λ l. all_answers inside ++ l) (all_served x ns u more rest)
    ∙ sym (append_assoc (all_answers inside) (all_answers after) last))) in
    rw (
      makes-append (events x kids) (events x ns) t,
      finished-append (events x kids) (events x ns) t,
      append_assoc inside after more,
      drop-events x kids t (after ++ more),
      answers-append inside after,
    )
    (place_served g.queue (first_id (with_id made h)) ((below ++ behind) ++ rest) [] later last both
    ∙ ap (λ l. ((l ++ []) ++ later) ++ last) (head_answers h own label g.used g.queue refl))
all_served x (node (frame_node f) ns) g more rest =
    let ss = frame_starts x f.inner in
    let made = made_for f.id (first_label g.queue) g.used g.queue in
    let used = with_made made g.used in
    let t = step g (html_frame f.id ss) in
    let later = makes t (events x ns) in
    let behind = marks x (nodes_with_anchors (later ++ more) ns) in
    let inner = inner_marks ss (f.anchors ++ start_pairs used ss) in
    let last = served_behind (finished t (events x ns)).queue rest in
    let inside = start_answers used ss in
    let both : served_names ((inner ++ behind) ++ rest) ≡ inside ++ (all_answers later ++ last) =
    ap served_names (append_assoc inner behind rest)
    ∙ (inner_served ss used f.anchors (behind ++ rest)
    ∙ ap (λ l. inside ++ l) (all_served x ns t more rest)) in
    place_served g.queue (or_else f.id made) ((inner ++ behind) ++ rest) inside (all_answers later)
    last both

pub anchors_serve : AnchorsServe
unfolding element_with_anchors anchor_of
anchors_serve x e l =
    let g : Groups = record {
      queue = [];
      used = stands_in (element_names e);
      answers = λ l. None;
    } in
    let made = makes g (events x e.1) in
    let all : served_names (marks x (nodes_with_anchors made e.1)) ≡ all_answers made =
    ap served_names (sym (append-nil (marks x (nodes_with_anchors made e.1))))
    ∙ (ap (λ cs. served_names (marks x (nodes_with_anchors cs e.1) ++ [])) (sym (append-nil made))
    ∙ (all_served x e.1 g [] []
    ∙ (ap (λ l. all_answers made ++ l) (nothing_waits (finished g (events x e.1)).queue)
    ∙ append-nil (all_answers made)))) in
    let is : made ≡ element_namings x e = makes_is (events x e.1) g in
    ap (λ l'. last_name l' l)
    (sym (ap all_answers is) ∙ (sym all ∙ ap (λ cs. served_names (marks x (nodes_with_anchors cs e.1))) is))
  where
    nothing_waits : (q : List Start) → served_behind q [] ≡ []
    nothing_waits [] = refl
    nothing_waits (s ∷ ss) = nothing_waits ss

pub marks_stay : (x : Targets) (hrefs : Hrefs) (before : List NodeView) (ns : NodesView) →
    marks x (nodes_with_links hrefs before ns) ≡ marks x ns
unfolding nodes_with_links node_with_links marks
marks_stay x hrefs before none = refl
marks_stay x hrefs before (node (tag_node (starts l label dest)) ns) =
    ap (λ ms. start_marks (x.is_target l) l ++ ms)
    (marks_stay x hrefs (tag_node (starts l label dest) ∷ before) ns)
marks_stay x hrefs before (node (tag_node (ends l)) ns) =
    marks_stay x hrefs (tag_node (ends l) ∷ before) ns
marks_stay x hrefs before (node (text_node s span) ns) =
    ap (λ ms. place_mark None ∷ ms) (marks_stay x hrefs (text_node s span ∷ before) ns)
marks_stay x hrefs before (node (element_node h kids) ns) =
    rw (
      id_stays hrefs (dest_before before) h,
      marks_stay x hrefs [] kids,
      marks_stay x hrefs (element_node h kids ∷ before) ns,
    )
    refl
marks_stay x hrefs before (node (frame_node f) ns) =
    ap (λ ms. place_mark f.id ∷ inner_marks (frame_starts x f.inner) f.anchors ++ ms)
    (marks_stay x hrefs (frame_node f ∷ before) ns)

pub still_serves : (d new : DocumentView) → new ≡ document_with_links d → KnownAnchorsServe d →
    KnownAnchorsServe new
still_serves d new is serves = subst KnownAnchorsServe (sym is) (λ l.
    let x = document_targets d.introspector.is_link_target d in
    serves l
    ∙ (ap (λ ms. last_name (served_names ms) l)
    (sym (marks_stay x (document_hrefs d) [] (document_root d).1))
    ∙ ap (λ (e : ElementView). last_name (served_names (marks x e.1)) l)
    (sym (root_has_links d))))
