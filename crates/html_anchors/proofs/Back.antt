-- What was added, taken off again, gives the old tree.
use Rattle.std.proofs.Common.{◌≡◌, ℕ, Bool, true, false, List, [], ◌∷◌, ◌++◌, length, Option, Some, None, refl, ap, ◌∙◌, append_assoc}
use Rattle.std.{proofs.lemmas.List.{append-nil, drop_at}, specs.Prelude.{is_some}}
use Rattle.html_dom_tree.{proofs.Basics.{or_else-none}, specs.Attributes.{or_else}, specs.Frames.{HtmlFrameView}}
use Rattle.html_dom_tree.specs.Tree.{Head, starts, ends, tag_node, text_node, element_node, frame_node, NodesView, none, node}
use Rattle.html_names_core.proofs.Basics.{last_taken}
use Rattle.html_links.specs.TreeNames.{Name, first_id}
use Rattle.html_anchors.proofs.States.{Groups, at_start, naming_at, step, finished, makes, makes_is, makes-append, drop-events, length-events}
use Rattle.html_anchors.specs.Anchors.{with_id, text_in_span, span_before, named_frame, nodes_size, nodes_with_anchors, element_with_anchors}
use Rattle.html_anchors.specs.Events.{Start, Event, end_tag, element, text, html_frame, Targets, start_event, frame_starts, events}
use Rattle.html_anchors.specs.{Groups.{first_label}, Namings.{Naming, made_for}}
use Rattle.html_anchors.specs.Undone.{without_id, old_id, unnamed_frame, nodes_undone, ComesBack}

end_back : (made : Option Name) (es : List Event) (cs : List Naming) (rest : NodesView) →
    nodes_undone (is_some made) es cs (span_before made rest) ≡ nodes_undone false es cs rest
unfolding nodes_undone
end_back None es cs rest = refl
end_back (Some n) es cs none = refl
end_back (Some n) es cs (node m rest) = refl

text_back : (made : Option Name) (s : List ℕ) (span : ℕ) (es : List Event) (c : Naming)
    (cs : List Naming) (rest : NodesView) →
    nodes_undone false (text ∷ es) (c ∷ cs) (node (text_in_span made s span) rest)
    ≡ node (text_node s span) (nodes_undone false es cs rest)
unfolding nodes_undone
text_back None s span es c cs rest = refl
text_back (Some n) s span es c cs rest = refl

head_back : (made : Option Name) (h : Head) → without_id made (with_id made h) ≡ h
head_back None h = refl
head_back (Some n) h = refl

id_back : (own label : Option Name) (used : Name → Bool) (q : List Start) →
    let made = made_for own label used q in old_id made (or_else own made) ≡ own
id_back own label used [] = or_else-none own
id_back (Some n) label used (s ∷ ss) = refl
id_back None label used (s ∷ ss) = refl

frame_back : (f : HtmlFrameView) (c : Naming) → old_id c.made (or_else f.id c.made) ≡ f.id →
    unnamed_frame c (named_frame c.made c.pairs f) ≡ f
frame_back f c e = rw (e, last_taken f.anchors c.pairs (length c.pairs) refl) refl

start_back : (is_target : Bool) (l : ℕ) (label : Option Name) (dest : Option ℕ) (g : Groups)
    (es : List Event) (cs : List Naming) (rest : NodesView) →
    let e = start_event is_target l label in
    let t = tag_node (starts l label dest) in
    nodes_undone false (e ∷ es) (naming_at g e ∷ cs)
    (node t (span_before (naming_at g e).made rest))
    ≡ node t (nodes_undone false es cs rest)
unfolding nodes_undone
start_back true l label dest g es cs rest = refl
start_back false l label dest g es cs rest = refl

all_back : (x : Targets) (ns : NodesView) (g : Groups) (es : List Event) (cs : List Naming) →
    nodes_undone false (events x ns ++ es) (makes g (events x ns) ++ cs)
    (nodes_with_anchors (makes g (events x ns) ++ cs) ns) ≡ ns
unfolding nodes_undone nodes_with_anchors events
all_back x none g es cs = refl
all_back x (node (tag_node (starts l label dest)) ns) g es cs =
    start_back (x.is_target l) l label dest g (events x ns ++ es) _ _
    ∙ ap (node (tag_node (starts l label dest))) (all_back x ns (step g (start_event (x.is_target l) l label)) es cs)
all_back x (node (tag_node (ends l)) ns) g es cs =
    ap (node (tag_node (ends l))) (end_back (naming_at g (end_tag l)).made (events x ns ++ es) _ _
    ∙ all_back x ns (step g (end_tag l)) es cs)
all_back x (node (text_node s span) ns) g es cs =
    text_back (naming_at g text).made s span (events x ns ++ es) (naming_at g text) _ _
    ∙ ap (node (text_node s span)) (all_back x ns (step g text) es cs)
all_back x (node (element_node h kids) ns) g es cs =
    let t = step g (element (first_id h)) in
    let ek = events x kids in
    let en = events x ns in
    let u = finished t ek in
    let after = makes u en in
    rw (
      makes-append ek en t,
      append_assoc (makes t ek) after cs,
      append_assoc ek en es,
      drop-events x kids t (after ++ cs),
      all_back x kids t (en ++ es) (after ++ cs),
      drop_at ek (en ++ es) (nodes_size kids) (length-events x kids),
      drop-events x kids t (after ++ cs),
      head_back (naming_at g (element (first_id h))).made h,
    ) (ap (node (element_node h kids)) (all_back x ns u es cs))
all_back x (node (frame_node f) ns) g es cs =
    let e = html_frame f.id (frame_starts x f.inner) in
    rw (
      frame_back f (naming_at g e) (id_back f.id (first_label g.queue) g.used g.queue),
      all_back x ns (step g e) es cs,
    ) refl

pub comes_back : ComesBack
unfolding element_with_anchors
comes_back x e =
    let g = at_start e in
    let es = events x e.1 in
    rw (← makes_is es g) (rw (append-nil es, append-nil (makes g es)) at (all_back x e.1 g [] []))
