-- Each name that is answered stands in the new tree.
use Rattle.std.proofs.Common.{◌≡◌, ℕ, Bool, true, false, ◌||◌, ◌==◌, List, [], ◌∷◌, ◌++◌, Option, Some, None, refl, ap, sym, ◌∙◌, append_assoc, subst}
use Rattle.std.proofs.{lemmas.Bool.{or_right}, lemmas.List.{append-nil}, lemmas.Slice.Eq.{bytes_eq-Decides}}
use Rattle.std.specs.Prelude.{if◌then◌else◌, option_to_list}
use Rattle.html_dom_tree.specs.{Attributes.{or_else}, Frames.{PointView}}
use Rattle.html_dom_tree.specs.Tree.{Head, starts, ends, tag_node, text_node, element_node, frame_node, NodesView, none, node}
use Rattle.html_names_core.{proofs.Ascending.{stands_in-append}, specs.Names.{stands_in}}
use Rattle.html_links.proofs.Gathering.{stands-append}
use Rattle.html_links.specs.TreeNames.{Name, with_used_name, anchor_names, first_id, gathered_names, shown_names}
use Rattle.html_anchors.proofs.States.{Groups, at_start, naming_at, step, finished, makes, makes_is, makes-append, drop-events}
use Rattle.html_anchors.specs.Anchors.{with_id, text_in_span, span_before, nodes_with_anchors, element_namings, element_with_anchors, anchor_of}
use Rattle.html_anchors.specs.Answered.{AnswersAreShown}
use Rattle.html_anchors.specs.Events.{Start, FrameStart, end_tag, element, text, html_frame, Targets, start_event, frame_starts, events}
use Rattle.html_anchors.specs.Groups.{is_in_group, first_label, label_of}
use Rattle.html_anchors.specs.Namings.{Naming, made_for, group_answers, start_pairs, start_answers, with_made, all_answers, last_name}
use Rattle.html_anchors.specs.NewNames.{new_name}

-- the names of the answers are among these
abbrev AreAmong : List (ℕ × Name) → List Name → Type 0
AreAmong [] names = Unit {0}
AreAmong (a ∷ as') names = (stands_in names a.1 ≡ true) × AreAmong as' names

pub among-right : (as' bs : List Name) (n : Name) → stands_in bs n ≡ true →
    stands_in (as' ++ bs) n ≡ true
among-right as' bs n e = stands-append as' bs n ∙ or_right _ _ e

all-left : (xs : List (ℕ × Name)) (as' bs : List Name) → AreAmong xs as' → AreAmong xs (as' ++ bs)
all-left [] as' bs h = tt
all-left (x ∷ xs) as' bs h = (stands_in-append as' bs x.1 h.0, all-left xs as' bs h.1)

all-right : (xs : List (ℕ × Name)) (as' bs : List Name) → AreAmong xs bs → AreAmong xs (as' ++ bs)
all-right [] as' bs h = tt
all-right (x ∷ xs) as' bs h = (among-right as' bs x.1 h.0, all-right xs as' bs h.1)

both : (xs ys : List (ℕ × Name)) (names : List Name) →
    AreAmong xs names → AreAmong ys names → AreAmong (xs ++ ys) names
both [] ys names a b = b
both (x ∷ xs) ys names a b = (a.0, both xs ys names a.1 b)

-- answers before others, names before others
joined : (xs ys : List (ℕ × Name)) (as' bs : List Name) →
    AreAmong xs as' → AreAmong ys bs → AreAmong (xs ++ ys) (as' ++ bs)
joined xs ys as' bs a b = both xs ys (as' ++ bs) (all-left xs as' bs a) (all-right ys as' bs b)

with_nil : (xs ys : List (ℕ × Name)) (names : List Name) →
    AreAmong (xs ++ ys) names → AreAmong ((xs ++ []) ++ ys) names
with_nil xs ys names h = subst (λ zs. AreAmong (zs ++ ys) names) (sym (append-nil xs)) h

itself : (n : Name) (ns : List Name) → stands_in (n ∷ ns) n ≡ true
unfolding stands_in
itself n ns = ap (λ b. b || stands_in ns n) ((bytes_eq-Decides n n).1 refl)

answered_among : (n : Option Name) (ss : List Start) → AreAmong (group_answers n ss) (option_to_list n)
answered_among None ss = tt
answered_among (Some n) [] = tt
answered_among (Some n) (s ∷ ss) = (itself n [], answered_among (Some n) ss)

starts_among : (ss : List FrameStart) (used : Name → Bool) →
    AreAmong (start_answers used ss) (anchor_names (start_pairs used ss))
starts_among [] used = tt
starts_among (s ∷ ss) used =
    let n = new_name s.label used in
    (itself n _, all-right _ (n ∷ []) _ (starts_among ss (with_used_name n used)))

pub answers-append : (as' bs : List Naming) →
    all_answers (as' ++ bs) ≡ all_answers as' ++ all_answers bs
answers-append [] bs = refl
answers-append (a ∷ as') bs =
    ap (λ l. a.answers ++ l) (answers-append as' bs)
    ∙ sym (append_assoc a.answers (all_answers as') (all_answers bs))

names-append : (as' bs : List (PointView × Name)) →
    anchor_names (as' ++ bs) ≡ anchor_names as' ++ anchor_names bs
names-append [] bs = refl
names-append (a ∷ as') bs = ap (λ l. a.1 ∷ l) (names-append as' bs)

-- an element shows the name that it serves with
head_shows : (h : Head) (own label : Option Name) (used : Name → Bool) (q : List Start) →
    first_id h ≡ own →
    AreAmong (group_answers (or_else own (made_for own label used q)) q)
    (option_to_list (first_id (with_id (made_for own label used q) h)))
head_shows h None label used [] e = tt
head_shows h (Some n) label used [] e = tt
head_shows h None label used (s ∷ ss) e = answered_among (Some (new_name label used)) (s ∷ ss)
head_shows h (Some n) label used (s ∷ ss) e =
    rw e (answered_among (Some n) (s ∷ ss))

-- so does a new element after an end tag, and a text in a new element
end_shows : (label : Option Name) (used : Name → Bool) (q : List Start)
    (ns : NodesView) (xs : List (ℕ × Name)) → let made = made_for None label used q in
    AreAmong xs (shown_names ns) →
    AreAmong ((group_answers made q ++ []) ++ xs) (shown_names (span_before made ns))
unfolding gathered_names
end_shows label used [] ns xs h = h
end_shows label used (s ∷ ss) ns xs h =
    let n = Some (new_name label used) in
    with_nil (group_answers n (s ∷ ss)) xs (option_to_list n ++ shown_names ns)
    (joined (group_answers n (s ∷ ss)) xs (option_to_list n) (shown_names ns)
    (answered_among n (s ∷ ss)) h)

text_shows : (label : Option Name) (used : Name → Bool) (q : List Start) (s : List ℕ) (span : ℕ)
    (ns : NodesView) (xs : List (ℕ × Name)) → let made = made_for None label used q in
    AreAmong xs (shown_names ns) →
    AreAmong ((group_answers made q ++ []) ++ xs) (shown_names (node (text_in_span made s span) ns))
unfolding gathered_names
text_shows label used [] t span ns xs h = h
text_shows label used (s ∷ ss) t span ns xs h = end_shows label used (s ∷ ss) ns xs h

start_shows : (is_target : Bool) (l : ℕ) (label : Option Name) (g : Groups) (ns : NodesView)
    (xs : List (ℕ × Name)) → let c = naming_at g (start_event is_target l label) in
    AreAmong xs (shown_names ns) →
    AreAmong (c.answers ++ xs) (shown_names (span_before c.made ns))
start_shows true l label g ns xs h = h
start_shows false l label g ns xs h = h

all_shown : (x : Targets) (ns : NodesView) (g : Groups) (more : List Naming) →
    AreAmong (all_answers (makes g (events x ns)))
    (shown_names (nodes_with_anchors (makes g (events x ns) ++ more) ns))
unfolding events nodes_with_anchors gathered_names
all_shown x none g more = tt
all_shown x (node (tag_node (starts l label dest)) ns) g more =
    start_shows (x.is_target l) l label g _ _
    (all_shown x ns (step g (start_event (x.is_target l) l label)) more)
all_shown x (node (tag_node (ends l)) ns) g more =
    let q = if is_in_group l g.queue then g.queue else [] in
    end_shows (label_of l q) g.used q _ _ (all_shown x ns (step g (end_tag l)) more)
all_shown x (node (text_node s span) ns) g more =
    text_shows (first_label g.queue) g.used g.queue s span _ _ (all_shown x ns (step g text) more)
all_shown x (node (element_node h kids) ns) g more =
    let own = first_id h in
    let made = made_for own (first_label g.queue) g.used g.queue in
    let group = group_answers (or_else own made) g.queue in
    let t = step g (element own) in
    let u = finished t (events x kids) in
    let inside = makes t (events x kids) in
    let after = makes u (events x ns) in
    let names = option_to_list (first_id (with_id made h)) in
    let here : AreAmong (group ++ []) names =
    rw (append-nil group) (head_shows h own (first_label g.queue) g.used g.queue refl) in
    rw (
      makes-append (events x kids) (events x ns) t,
      append_assoc inside after more,
      drop-events x kids t (after ++ more),
      answers-append inside after,
    )
    (joined (group ++ []) _ names _ here
    (joined _ _ _ _ (all_shown x kids t (after ++ more)) (all_shown x ns u more)))
all_shown x (node (frame_node f) ns) g more =
    let ss = frame_starts x f.inner in
    let made = made_for f.id (first_label g.queue) g.used g.queue in
    let used = with_made made g.used in
    let name = or_else f.id made in
    let anchors = f.anchors ++ start_pairs used ss in
    let paired : AreAmong (start_answers used ss) (anchor_names anchors) =
    rw (names-append f.anchors (start_pairs used ss))
    (all-right _ (anchor_names f.anchors) _ (starts_among ss used)) in
    joined (group_answers name g.queue ++ start_answers used ss) _
    (option_to_list name ++ anchor_names anchors) _
    (joined _ _ _ _ (answered_among name g.queue) paired)
    (all_shown x ns (step g (html_frame f.id ss)) more)

from_answer : (as' : List (ℕ × Name)) (names : List Name) (l : ℕ) (n : Name) →
    AreAmong as' names → last_name as' l ≡ Some n → stands_in names n ≡ true
from_answer [] names l n h e = cc
from_answer (a ∷ as') names l n h e =
    by_rest (last_name as' l) (a.0 == l) e (from_answer as' names l n h.1)
  where
    by_rest : (o : Option Name) (b : Bool) → or_else o (if b then Some a.1 else None) ≡ Some n →
        (o ≡ Some n → stands_in names n ≡ true) → stands_in names n ≡ true
    by_rest (Some m) b e so = so e
    by_rest None true e so = let same : a.1 ≡ n = cc in rw (← same) h.0
    by_rest None false e so = cc

pub answers_are_shown : AnswersAreShown
unfolding element_with_anchors anchor_of
answers_are_shown x e l n is =
    let g = at_start e in
    let es = events x e.1 in
    from_answer (all_answers (element_namings x e))
    (shown_names (nodes_with_anchors (element_namings x e) e.1)) l n
    (rw (append-nil (makes g es), makes_is es g) at (all_shown x e.1 g [])) is
