-- How often a name comes in a tree with anchors: as often as before, and as often as it was made.
use Rattle.std.proofs.Common.{◌≡◌, ℕ, ◌+◌, ◌≤◌, Bool, true, false, cond, List, [], ◌∷◌, ◌++◌, Option, Some, None, inl, inr, bytes_eq, refl, ap, sym, ◌∙◌, append_assoc, arith}
use Rattle.std.{proofs.lemmas.Bool.{cases_Bool}, proofs.lemmas.List.{append-nil, map-append}, specs.Prelude.{option_to_list}}
use Rattle.html_names_core.proofs.Basics.{bytes_eq-same}
use Rattle.html_dom_tree.specs.{Attributes.{or_else}, Frames.{PointView}}
use Rattle.html_dom_tree.specs.Tree.{Head, NodeView, starts, ends, tag_node, text_node, element_node, frame_node, NodesView, none, node, ElementView}
use Rattle.html_anchors.proofs.States.{Groups, at_start, naming_at, step, finished, makes, makes_is, makes-append, drop-events}
use Rattle.html_anchors.specs.Anchors.{with_id, text_in_span, span_before, nodes_with_anchors, element_namings, element_with_anchors}
use Rattle.html_anchors.specs.DistinctIds.{AnchorsStayDistinct, AllNamesStay}
use Rattle.html_anchors.specs.Events.{Start, Targets, start_event, end_tag, text, element, html_frame, frame_starts, events}
use Rattle.html_anchors.specs.{Fresh.{AreNew, all_made, names_made}, Groups.{first_label}}
use Rattle.html_anchors.specs.Links.{Hrefs, attrs_with_href, dest_before, head_with_link, href_of, node_with_links, nodes_with_links, open_dest}
use Rattle.html_anchors.specs.Namings.{Naming, made_for, start_pairs, with_made}
use Rattle.html_links.proofs.Differing.{at_most_one, distinct_once, occurrences-append, occurrences-cons, occurrences-none, once_distinct, one_if}
use Rattle.html_links.specs.Distinct.{occurrences}
use Rattle.html_links.specs.TreeNames.{Name, all_ids, anchor_names, element_names, first_id, nodes_names, gathered_names, with_used_name}

made-append : (as' bs : List Naming) → all_made (as' ++ bs) ≡ all_made as' ++ all_made bs
made-append [] bs = refl
made-append (a ∷ as') bs =
    ap (λ l. names_made a ++ l) (made-append as' bs)
    ∙ sym (append_assoc (names_made a) (all_made as') (all_made bs))

-- the names of what was put in
names_before : (made : Option Name) (ns : NodesView) →
    nodes_names (span_before made ns) ≡ option_to_list made ++ nodes_names ns
unfolding gathered_names
names_before None ns = refl
names_before (Some n) ns = refl

names_around : (made : Option Name) (s : List ℕ) (span : ℕ) (ns : NodesView) →
    nodes_names (node (text_in_span made s span) ns) ≡ option_to_list made ++ nodes_names ns
unfolding gathered_names
names_around None s span ns = refl
names_around (Some n) s span ns = refl

ids_with : (made : Option Name) (h : Head) →
    all_ids (with_id made h).attrs ≡ option_to_list made ++ all_ids h.attrs
ids_with None h = refl
ids_with (Some n) h = refl

module _ (n : Name) where
  abbrev count : List Name → ℕ
  count names = occurrences names n

  -- names that were made before others
  more_count : (made old new later : List Name) → count new ≡ count old + count later →
      count (made ++ new) ≡ count old + count ((made ++ []) ++ later)
  more_count made old new later so = simp (occurrences-append, occurrences-none) (omega arith)

  -- those of an element, of its children and of what is behind it
  element_count : (made own kids kids' inside ns ns' after : List Name) →
      count kids' ≡ count kids + count inside → count ns' ≡ count ns + count after →
      count ((made ++ own) ++ (kids' ++ ns'))
      ≡ count (own ++ (kids ++ ns)) + count ((made ++ []) ++ (inside ++ after))
  element_count made own kids kids' inside ns ns' after within behind =
      simp (occurrences-append, occurrences-none) (omega arith)

  -- a name is made only where there is none
  own_count : (own label : Option Name) (used : Name → Bool) (q : List Start) →
      let made = made_for own label used q in
      count (option_to_list (or_else own made))
      ≡ count (option_to_list own) + count (option_to_list made)
  own_count None label used [] = omega (arith, occurrences-none n)
  own_count (Some m) label used [] = omega (arith, occurrences-none n)
  own_count None label used (s ∷ ss) = omega (arith, occurrences-none n)
  own_count (Some m) label used (s ∷ ss) = omega (arith, occurrences-none n)

  -- those of a frame, and of what is behind it
  frame_count : (own own' made anchors pairs ns ns' later : List Name) →
      count own' ≡ count own + count made → count ns' ≡ count ns + count later →
      count ((own' ++ (anchors ++ pairs)) ++ ns')
      ≡ count ((own ++ anchors) ++ ns) + count ((made ++ pairs) ++ later)
  frame_count own own' made anchors pairs ns ns' later named behind =
      simp occurrences-append (omega arith)

  start_counts : (is_target : Bool) (l : ℕ) (label : Option Name) (g : Groups) (ns : NodesView)
      (old later : List Name) → let c = naming_at g (start_event is_target l label) in
      count (nodes_names ns) ≡ count old + count later →
      count (nodes_names (span_before c.made ns)) ≡ count old + count (names_made c ++ later)
  start_counts true l label g ns old later so = so
  start_counts false l label g ns old later so = so

  all_count : (x : Targets) (ns : NodesView) (g : Groups) (more : List Naming) →
      count (nodes_names (nodes_with_anchors (makes g (events x ns) ++ more) ns))
      ≡ count (nodes_names ns) + count (all_made (makes g (events x ns)))
  unfolding events nodes_with_anchors gathered_names
  all_count x none g more = omega (arith, occurrences-none n)
  all_count x (node (tag_node (starts l label dest)) ns) g more =
      let b = x.is_target l in
      start_counts b l label g _ _ _ (all_count x ns (step g (start_event b l label)) more)
  all_count x (node (tag_node (ends l)) ns) g more =
      let later = makes (step g (end_tag l)) (events x ns) in
      let made = (naming_at g (end_tag l)).made in
      ap count (names_before made (nodes_with_anchors (later ++ more) ns))
      ∙ more_count (option_to_list made) _ _ _ (all_count x ns (step g (end_tag l)) more)
  all_count x (node (text_node s span) ns) g more =
      let later = makes (step g text) (events x ns) in
      let made = (naming_at g text).made in
      ap count (names_around made s span (nodes_with_anchors (later ++ more) ns))
      ∙ more_count (option_to_list made) _ _ _ (all_count x ns (step g text) more)
  all_count x (node (element_node h kids) ns) g more =
      let own = first_id h in
      let made = made_for own (first_label g.queue) g.used g.queue in
      let t = step g (element own) in
      let u = finished t (events x kids) in
      let inside = makes t (events x kids) in
      let after = makes u (events x ns) in
      rw (
        makes-append (events x kids) (events x ns) t,
        append_assoc inside after more,
        drop-events x kids t (after ++ more),
        made-append inside after,
        ids_with made h,
      )
      (element_count (option_to_list made) (all_ids h.attrs) _ _ _ _ _ _
      (all_count x kids t (after ++ more)) (all_count x ns u more))
  all_count x (node (frame_node f) ns) g more =
      let ss = frame_starts x f.inner in
      let made = made_for f.id (first_label g.queue) g.used g.queue in
      let pairs = start_pairs (with_made made g.used) ss in
      rw (map-append (λ (a : PointView × Name). a.1) f.anchors pairs)
      (frame_count (option_to_list f.id) (option_to_list (or_else f.id made))
      (option_to_list made) (anchor_names f.anchors) (anchor_names pairs) _ _ _
      (own_count f.id (first_label g.queue) g.used g.queue)
      (all_count x ns (step g (html_frame f.id ss)) more))

  counted : (x : Targets) (e : ElementView) →
      count (element_names (element_with_anchors x e))
      ≡ count (element_names e) + count (all_made (element_namings x e))
  unfolding element_with_anchors
  counted x e =
      let g = at_start e in
      let es = events x e.1 in
      let whole = rw (append-nil (makes g es), makes_is es g) at (all_count x e.1 g []) in
      simp occurrences-append (omega (arith, whole))

-- a new name comes once, and only where it is not in use
new_once : (ms : List Name) (used : Name → Bool) (n : Name) → AreNew used ms →
    occurrences ms n + cond (used n) 1 0 ≤ 1
new_once [] used n new = omega (arith, occurrences-none n, at_most_one (used n))
new_once (m ∷ ms) used n new =
    let more = occurrences-cons m ms n in
    let so = new_once ms (with_used_name m used) n new.1 in
    elim (cases_Bool (bytes_eq m n)) [
      | inl is ↦
          let free : used n ≡ false = ap used (sym (bytes_eq-same m n is)) ∙ new.0 in
          let here = rw is at so in
          omega (arith, more, ap one_if is, here, ap one_if free)
      | inr is ↦ let here = rw is at so in omega (arith, more, ap one_if is, here)
    ]

-- names that are new leave all different
pub anchors_stay_distinct : AnchorsStayDistinct
anchors_stay_distinct x e new distinct =
    let made = all_made (element_namings x e) in
    once_distinct (element_names (element_with_anchors x e)) (λ n. omega (
      arith,
      counted n x e,
      new_once made _ n new,
      distinct_once (element_names e) n distinct,
    ))

ids_stay : (hrefs : Hrefs) (dest : Option ℕ) (h : Head) →
    all_ids (head_with_link hrefs dest h).attrs ≡ all_ids h.attrs
ids_stay hrefs dest h = by (href_of hrefs (open_dest h dest))
  where
    by : (name : Option (List ℕ)) → all_ids (attrs_with_href name h.attrs) ≡ all_ids h.attrs
    by None = refl
    by (Some name) = refl

nodes_stay : (hrefs : Hrefs) (before : List NodeView) (ns : NodesView) →
    nodes_names (nodes_with_links hrefs before ns) ≡ nodes_names ns
unfolding nodes_with_links node_with_links gathered_names
nodes_stay hrefs before none = refl
nodes_stay hrefs before (node (tag_node t) ns) = nodes_stay hrefs (tag_node t ∷ before) ns
nodes_stay hrefs before (node (text_node s span) ns) =
    nodes_stay hrefs (text_node s span ∷ before) ns
nodes_stay hrefs before (node (element_node h kids) ns) =
    rw (
      ids_stay hrefs (dest_before before) h,
      nodes_stay hrefs [] kids,
      nodes_stay hrefs (element_node h kids ∷ before) ns,
    ) refl
nodes_stay hrefs before (node (frame_node f) ns) =
    rw (nodes_stay hrefs (frame_node f ∷ before) ns) refl

pub all_names_stay : AllNamesStay
all_names_stay hrefs e = rw (nodes_stay hrefs [] e.1) refl
