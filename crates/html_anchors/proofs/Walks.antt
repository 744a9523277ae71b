-- One walk gives the tree and the names that the groups give.
use Rattle.std.proofs.Common.{◌≡◌, ℕ, Bool, true, false, ◌==◌, List, [], ◌∷◌, ◌++◌, Option, Some, None, inl, inr, refl, ap, sym, ◌∙◌, append_assoc}
use Rattle.std.{proofs.Math.Path.{fun_ext}, proofs.lemmas.Bool.{cases_Bool, eq-eqb}, proofs.lemmas.List.{append-nil}, specs.Prelude.{if◌then◌else◌}}
use Rattle.html_dom_tree.{proofs.Basics.{or_else-assoc, or_else-none}, specs.Attributes.{or_else}}
use Rattle.html_dom_tree.specs.Tree.{starts, ends, tag_node, text_node, element_node, frame_node, NodesView, none, node}
use Rattle.html_links.specs.TreeNames.{Name, first_id}
use Rattle.html_anchors.proofs.States.{Groups, at_start, naming_at, step, finished, makes, makes_is, makes-append, finished-append, drop-events, last_name-append, finished_answers}
use Rattle.html_anchors.specs.AnchorWalk.{WalkState, with_entry, after_tag_start, first_waiting, put_each, with_answers, made_now, after_server, after_start, after_starts, Walked, walk, OneWalkServes}
use Rattle.html_anchors.specs.Anchors.{nodes_with_anchors, element_with_anchors, anchor_of}
use Rattle.html_anchors.specs.Events.{Start, FrameStart, end_tag, element, text, html_frame, Targets, start_event, frame_starts, events}
use Rattle.html_anchors.specs.Groups.{is_in_group, Cut, first_label, label_of}
use Rattle.html_anchors.specs.Namings.{made_for, group_answers, start_answers, used_after_starts, with_made, Naming, naming, used_after, all_answers, last_name}
use Rattle.html_anchors.specs.NewNames.{new_name}

-- the group that waits, as the walk carries it
abbrev pub locations_of : List Start → List ℕ
locations_of [] = []
locations_of (s ∷ ss) = s.location ∷ locations_of ss

abbrev pub labels_of : List Start → ℕ → Option (Option Name)
labels_of q l = if is_in_group l q then Some (label_of l q) else None

abbrev pub waiting_in : List Start → Option (Option Name)
waiting_in [] = None
waiting_in (s ∷ ss) = Some s.label

abbrev pub walk_state : Groups → WalkState
walk_state g = record {
  waiting = locations_of g.queue;
  labels = labels_of g.queue;
  used = g.used;
  answers = g.answers;
}

locations_more : (q : List Start) (s : Start) →
    locations_of q ++ s.location ∷ [] ≡ locations_of (q ++ s ∷ [])
locations_more [] s = refl
locations_more (t ∷ q) s = ap (λ ls. t.location ∷ ls) (locations_more q s)

labels_more : (q : List Start) (s : Start) (k : ℕ) →
    or_else (labels_of q k) (if s.location == k then Some s.label else None)
    ≡ labels_of (q ++ s ∷ []) k
labels_more [] s k = elim (cases_Bool (s.location == k)) [
  | inl e ↦ rw e refl
  | inr e ↦ rw e refl
]
labels_more (t ∷ q) s k = elim (cases_Bool (t.location == k)) [
  | inl e ↦ rw e refl
  | inr e ↦ rw e (labels_more q s k)
]

started_is : (is_target : Bool) (l : ℕ) (label : Option Name) (g : Groups) →
    after_tag_start is_target l label (walk_state g) ≡ walk_state (step g (start_event is_target l label))
started_is false l label g = refl
started_is true l label g =
    let s : Start = record { location = l; label = label } in
    rw (locations_more g.queue s)
    (ap (λ ls. record (walk_state g) { waiting = locations_of (g.queue ++ s ∷ []); labels = ls })
    (fun_ext (labels_more g.queue s)))

first_waiting_is : (g : Groups) → first_waiting (walk_state g) ≡ waiting_in g.queue
first_waiting_is g = by_queue g.queue
  where
    by_queue : (q : List Start) →
        first_waiting (walk_state (record g { queue = q })) ≡ waiting_in q
    by_queue [] = refl
    by_queue (s ∷ ss) = rw (eq-eqb s.location s.location refl) refl

made_is : (own : Option Name) (q : List Start) (used : Name → Bool) →
    made_now (waiting_in q) own used ≡ made_for own (first_label q) used q
made_is own [] used = refl
made_is None (s ∷ ss) used = refl
made_is (Some n) (s ∷ ss) used = refl

-- the state when a group was served
abbrev served_group : (own made : Option Name) → List Start → Groups → WalkState
served_group own made q g = record {
  waiting = [];
  labels = λ l. None;
  used = with_made made g.used;
  answers = λ l. or_else (last_name (group_answers (or_else own made) q ++ []) l) (g.answers l);
}

-- of two names of one location the later one counts
entry_more : (n : Name) (later : Option Name) (b : Bool) (old : Option Name) →
    or_else later (if b then Some n else old)
    ≡ or_else (or_else later (if b then Some n else None)) old
entry_more n (Some m) b old = refl
entry_more n None true old = refl
entry_more n None false old = refl

put_each_is : (n : Name) (q : List Start) (answers : ℕ → Option Name) (l : ℕ) →
    put_each n (locations_of q) answers l
    ≡ or_else (last_name (group_answers (Some n) q) l) (answers l)
put_each_is n [] answers l = refl
put_each_is n (s ∷ ss) answers l = put_each_is n ss (with_entry s.location n answers) l
    ∙ entry_more n (last_name (group_answers (Some n) ss) l) (s.location == l) (answers l)

served_is : (n : Name) (made : Option Name) (g : Groups) →
    with_answers n (record (walk_state g) { used = with_made made g.used })
    ≡ served_group (Some n) made g.queue g
served_is n made g = rw (append-nil (group_answers (Some n) g.queue)) (ap (λ f. record {
  waiting = [];
  labels = λ l. None;
  used = with_made made g.used;
  answers = f;
}) (fun_ext (put_each_is n g.queue g.answers)))

abbrev groups : List Start → (Name → Bool) → (ℕ → Option Name) → Groups
groups q used answers = record { queue = q; used = used; answers = answers }

after_group : (own label : Option Name) (s : Start) (ss : List Start) (used : Name → Bool)
    (answers : ℕ → Option Name) → let g = groups (s ∷ ss) used answers in
    after_server (Some label) own (walk_state g)
    ≡ served_group own (made_for own label used (s ∷ ss)) (s ∷ ss) g
after_group (Some n) label s ss used answers = served_is n None (groups (s ∷ ss) used answers)
after_group None label s ss used answers =
    served_is (new_name label used) (Some (new_name label used)) (groups (s ∷ ss) used answers)

-- an element, a text, and the beginning of a frame
after_any : (own : Option Name) (q : List Start) (used : Name → Bool)
    (answers : ℕ → Option Name) → let g = groups q used answers in
    after_server (waiting_in q) own (walk_state g)
    ≡ served_group own (made_for own (first_label q) used q) q g
after_any None [] used answers = refl
after_any (Some n) [] used answers = refl
after_any own (s ∷ ss) used answers = after_group own s.label s ss used answers

server_is : (own : Option Name) (g : Groups) →
    after_server (first_waiting (walk_state g)) own (walk_state g)
    ≡ served_group own (made_for own (first_label g.queue) g.used g.queue) g.queue g
server_is own g = rw (first_waiting_is g) (after_any own g.queue g.used g.answers)

-- the start tags of a frame
starts_is : (ss : List FrameStart) (st : WalkState) → after_starts ss st ≡ record st {
  used = used_after_starts st.used ss;
  answers = λ l. or_else (last_name (start_answers st.used ss) l) (st.answers l);
}
starts_is [] st = refl
starts_is (s ∷ ss) st =
    let next = after_start s st in
    starts_is ss next
    ∙ ap (λ f. record st { used = used_after_starts next.used ss; answers = f }) (fun_ext (λ l.
    entry_more (new_name s.label st.used) (last_name (start_answers next.used ss) l)
    (s.location == l) (st.answers l)))

frame_is : (own : Option Name) (ss : List FrameStart) (g : Groups) →
    after_starts ss (after_server (first_waiting (walk_state g)) own (walk_state g))
    ≡ walk_state (step g (html_frame own ss))
frame_is own ss g =
    let made = made_for own (first_label g.queue) g.used g.queue in
    let used = with_made made g.used in
    let group = group_answers (or_else own made) g.queue in
    let inside = start_answers used ss in
    ap (after_starts ss) (server_is own g)
    ∙ (starts_is ss (served_group own made g.queue g)
    ∙ ap (λ f. record {
      waiting = [];
      labels = λ l. None;
      used = used_after_starts used ss;
      answers = f;
    }) (fun_ext (λ l. sym (or_else-assoc (last_name inside l) (last_name (group ++ []) l) (g.answers l))
    ∙ ap (λ a. or_else a (g.answers l)) (sym (last_name-append (group ++ []) inside l)
    ∙ ap (λ as'. last_name (as' ++ inside) l) (append-nil group)))))

-- an end tag, by whether its location waits
abbrev ended : Bool → ℕ → Groups → Groups
ended b l g =
    let c : Cut = record { event = end_tag l; group = if b then g.queue else [] } in
    record {
      queue = if b then [] else g.queue;
      used = used_after g.used c;
      answers = λ k. or_else (last_name (naming g.used c).answers k) (g.answers k);
    }

ended_as : (b : Bool) (l : ℕ) (q : List Start) (used : Name → Bool)
    (answers : ℕ → Option Name) → is_in_group l q ≡ b → let g = groups q used answers in
    after_server (if b then Some (label_of l q) else None) None (walk_state g)
    ≡ walk_state (ended b l g)
ended_as false l q used answers e = refl
ended_as true l [] used answers e = cc
ended_as true l (s ∷ ss) used answers e =
    after_group None (label_of l (s ∷ ss)) s ss used answers

end_is : (l : ℕ) (g : Groups) →
    after_server (labels_of g.queue l) None (walk_state g) ≡ walk_state (step g (end_tag l))
end_is l g = ended_as (is_in_group l g.queue) l g.queue g.used g.answers refl

made_at_end : (b : Bool) (l : ℕ) (q : List Start) (used : Name → Bool) → is_in_group l q ≡ b →
    made_now (if b then Some (label_of l q) else None) None used
    ≡ made_for None (label_of l (if b then q else [])) used (if b then q else [])
made_at_end false l q used e = refl
made_at_end true l [] used e = cc
made_at_end true l (s ∷ ss) used e = refl

made_any : (own : Option Name) (g : Groups) →
    made_now (first_waiting (walk_state g)) own g.used
    ≡ made_for own (first_label g.queue) g.used g.queue
made_any own g = rw (first_waiting_is g) (made_is own g.queue g.used)

no_name : (is_target : Bool) (l : ℕ) (label : Option Name) (g : Groups) →
    (naming_at g (start_event is_target l label)).made ≡ None
no_name true l label g = refl
no_name false l label g = refl

-- the new nodes and the state after them, by groups; more namings may follow
abbrev pub by_groups : Targets → NodesView → Groups → List Naming → Walked
by_groups x ns g more =
    (nodes_with_anchors (makes g (events x ns) ++ more) ns, walk_state (finished g (events x ns)))

pub walk_is : (x : Targets) (ns : NodesView) (g : Groups) (more : List Naming) →
    walk x ns (walk_state g) ≡ by_groups x ns g more
unfolding walk events nodes_with_anchors
walk_is x none g more = refl
walk_is x (node (tag_node (starts l label dest)) ns) g more =
    let b = x.is_target l in
    rw (
      started_is b l label g,
      walk_is x ns (step g (start_event b l label)) more,
      no_name b l label g,
    ) refl
walk_is x (node (tag_node (ends l)) ns) g more =
    rw (
      end_is l g,
      walk_is x ns (step g (end_tag l)) more,
      made_at_end (is_in_group l g.queue) l g.queue g.used refl,
    ) refl
walk_is x (node (text_node s span) ns) g more =
    rw (server_is None g, walk_is x ns (step g text) more, made_any None g) refl
walk_is x (node (element_node h kids) ns) g more =
    let t = step g (element (first_id h)) in
    let u = finished t (events x kids) in
    let after = makes u (events x ns) in
    rw (
      server_is (first_id h) g,
      walk_is x kids t (after ++ more),
      walk_is x ns u more,
      made_any (first_id h) g,
      makes-append (events x kids) (events x ns) t,
      finished-append (events x kids) (events x ns) t,
      append_assoc (makes t (events x kids)) after more,
      drop-events x kids t (after ++ more),
    ) refl
walk_is x (node (frame_node f) ns) g more =
    let ss = frame_starts x f.inner in
    rw (
      frame_is f.id ss g,
      walk_is x ns (step g (html_frame f.id ss)) more,
      server_is f.id g,
      made_any f.id g,
    ) refl

pub one_walk_serves : OneWalkServes
unfolding element_with_anchors anchor_of
one_walk_serves x e =
    let g = at_start e in
    let es = events x e.1 in
    let whole = walk_is x e.1 g [] in
    let all = append-nil (makes g es) ∙ makes_is es g in (
      ap (λ w. (e.0, w.0)) whole ∙ ap (λ cs. (e.0, nodes_with_anchors cs e.1)) all,
      λ l. ap (λ w. w.1.answers l) whole ∙ (finished_answers es g l
          ∙ (or_else-none (last_name (all_answers (makes g es)) l)
          ∙ ap (λ ns. last_name (all_answers ns) l) (makes_is es g))),
    )
