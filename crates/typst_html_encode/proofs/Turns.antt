-- One turn of a walk over a flat tree: it leaves an element, or comes to a node.
use Rattle.std.proofs.Common.{◌≡◌, ℕ, ◌<◌, ◌&&◌, Bool, true, false, List, [], ◌∷◌, ◌++◌, refl, sym, ◌∙◌, arith, append_assoc, append-nil, subst}
use Rattle.html_dom_tree.specs.Tree.{Head, NodeView, element_node, NodesView, none, node}
use Rattle.html_dom_flat.{proofs.Flats.{count_some}, specs.Flat.{nodes_count}}
use Rattle.typst_html_encode.proofs.Firsts.{first_of_more}
use Rattle.typst_html_encode.proofs.Walk.{entered_text, entered_faults, skipped_text, skipped_faults, skipped_named, first_in_node, rest_text, rest_faults, RestIsNamed, rest_size, rest_text_first, rest_faults_first, rest_named_first}
use Rattle.typst_html_encode.specs.{ExportFaults.{IsFirst, nodes_faults}, FrameWriters.{Frames}}
use Rattle.typst_html_encode.specs.{Layout.{indent_where, has_indent, due_after, margin_inside}, ReadingBack.{NodeIsNamed, NodesAreNamed}}
use Rattle.typst_html_encode.specs.Text.{end_tag_text, nodes_text}
use Rattle.typst_html_encode.specs.WriterWalk.{first_text, turn_text, turn_faults, FirstIsNamed, is_element_entered, node_is_entered, OpenElementView, open_element, outside_text, next_place}
use Rattle.typst_html_encode.specs.declared.{fault.ExportFault.{ExportFault}, layout.Margin.{Margin}, place.Place.{Place}}

-- a walk over nodes has written a text: with the text of what is left it is the text of the nodes
pub record IsAt (frames : Frames) (outer : Margin) (whole : NodesView) (start : List ℕ)
    (due : Bool) (left : NodesView) (opened : List OpenElementView) (text : List ℕ) : Type 0 where
  pub agrees : text ++ rest_text frames outer due left opened
      ≡ start ++ outside_text frames outer whole
  pub clean : rest_faults frames outer left opened ≡ nodes_faults frames false outer.pretty whole
  pub named : RestIsNamed left opened → NodesAreNamed whole

-- what is written in a turn that comes to a node, and its faults
pub record WritesNode (frames : Frames) (place : Place) (due : Bool) (n : NodeView)
    (text new_text : List ℕ) : Type 0 where
  pub agrees : new_text ≡ text ++ turn_text frames place due n
  pub clean : turn_faults frames place n ≡ []
  pub named : FirstIsNamed n

begun : (text indent first inner end left new_text all : List ℕ) →
    new_text ≡ text ++ (indent ++ first) →
    text ++ (indent ++ ((first ++ (inner ++ end)) ++ left)) ≡ all →
    new_text ++ (inner ++ (end ++ left)) ≡ all
begun text indent first inner end left new_text all wrote agrees =
    rw (wrote, append_assoc, append_assoc) (rw (append_assoc first, append_assoc inner) at agrees)

-- what is left falls in size
pub size_after : {all ns : NodesView} {n : NodeView} (os : List OpenElementView) →
    all ≡ node n ns → rest_size ns os < rest_size all os
unfolding nodes_count
size_after {n = n} [] is = rw is (omega (arith, count_some n))
size_after {n = n} (o ∷ os) is = rw is (omega (arith, count_some n))

size_of_inside : (h : Head) (inside ns : NodesView) (margin : Margin) (due : Bool)
    (os : List OpenElementView) →
    rest_size inside (open_element h margin due ns ∷ os)
    < rest_size (node (element_node h inside) ns) os
unfolding nodes_count
size_of_inside h inside ns margin due [] = omega arith
size_of_inside h inside ns margin due (o ∷ os) = omega arith

pub size_inside : {h : Head} {inside ns all : NodesView} {n : NodeView} {margin : Margin}
    {due : Bool} {o : OpenElementView} {os opened : List OpenElementView} →
    all ≡ node n ns → n ≡ element_node h inside → o ≡ open_element h margin due ns →
    opened ≡ o ∷ os → rest_size inside opened < rest_size all os
size_inside {h} {inside} {ns} {margin = margin} {due} {os = os} is element opening opened_are =
    rw (is, element, opened_are, opening) (size_of_inside h inside ns margin due os)

module _ {frames : Frames} {outer : Margin} {whole : NodesView} {start : List ℕ} {due : Bool} where
  pub starts : {left : NodesView} {opened : List OpenElementView} → left ≡ whole → opened ≡ [] →
      IsAt frames outer whole start due left opened start
  starts is none_open =
      rw (is, none_open) (record { agrees = refl; clean = refl; named = λ r. r })

  -- nothing is left
  pub finished : {left : NodesView} {opened : List OpenElementView} {text : List ℕ} →
      IsAt frames outer whole start due left opened text → left ≡ none → opened ≡ [] →
      (text ≡ start ++ outside_text frames outer whole)
      × (nodes_faults frames false outer.pretty whole ≡ []) × NodesAreNamed whole
  unfolding nodes_faults NodesAreNamed
  finished {text = text} stands is none_open =
      let done = rw (is, none_open) at stands in
      (sym (append-nil text) ∙ done.agrees, sym done.clean, done.named tt)

  -- the walk leaves the innermost open element
  pub leaves : {left : NodesView} {opened os : List OpenElementView} {o : OpenElementView}
      {text new_text : List ℕ} →
      IsAt frames outer whole start due left opened text → left ≡ none → opened ≡ o ∷ os →
      new_text ≡ text ++ (indent_where o.margin.pretty o.margin.level ++ end_tag_text o.name) →
      IsAt frames outer whole start o.due_after o.after os new_text
  unfolding nodes_text nodes_faults NodesAreNamed
  leaves stands is first wrote =
      let here = rw (is, first) at stands in
      record {
        agrees = rw (wrote, append_assoc, append_assoc) here.agrees;
        clean = here.clean;
        named = λ r. here.named (tt, r);
      }

  -- the walk comes to a node
  module _ {left others : NodesView} {n : NodeView} {opened : List OpenElementView}
      {text : List ℕ} (stands : IsAt frames outer whole start due left opened text)
      (is : left ≡ node n others) where
    here : IsAt frames outer whole start due (node n others) opened text
    here = rw is at stands

    pub passes : {place : Place} {next_due : Bool} {new_text : List ℕ} →
        place ≡ next_place outer opened → WritesNode frames place due n text new_text →
        node_is_entered n ≡ false → next_due ≡ (place.margin.pretty && due_after due n) →
        IsAt frames outer whole start next_due others opened new_text
    passes {place} is_place w skipped is_due =
        let one_text = skipped_text frames place.pre_span place.margin n skipped in
        let one_faults = skipped_faults frames place.pre_span place.margin.pretty n skipped in
        let texts = rw (rest_text_first frames outer n others opened due, ← is_place) at here.agrees in
        let faults = rw (rest_faults_first frames outer n others opened, ← is_place) at here.clean in
        rw is_due (record {
          agrees = rw (w.agrees, append_assoc, append_assoc) (rw one_text at texts);
          clean = rw (one_faults, w.clean) at faults;
          named = λ r. here.named (rest_named_first frames outer n others opened
              (skipped_named frames place.pre_span place.margin.pretty n skipped w.named w.clean) r);
        })

    pub refused : {place : Place} (e : ExportFault) → place ≡ next_place outer opened →
        IsFirst e (turn_faults frames place n) →
        IsFirst e (nodes_faults frames false outer.pretty whole)
    refused {place} e is_place first =
        let faults = rw (rest_faults_first frames outer n others opened, ← is_place) at here.clean in
        subst (IsFirst e) faults (first_of_more e _ _
        (first_in_node frames place.pre_span place.margin.pretty n e first))

  -- the walk enters an element
  enters_here : {inside others : NodesView} {h : Head} {opened : List OpenElementView}
      {place : Place} {text new_text : List ℕ} → place ≡ next_place outer opened →
      IsAt frames outer whole start due (node (element_node h inside) others) opened text →
      is_element_entered h inside ≡ true →
      WritesNode frames place due (element_node h inside) text new_text →
      let next_due = place.margin.pretty && due_after due (element_node h inside) in
      IsAt frames outer whole start true inside
      (open_element h (margin_inside place.margin h inside) next_due others ∷ opened) new_text
  unfolding NodeIsNamed
  enters_here {inside} {others} {h} {opened} {place} {text} {new_text} is_place here entered w =
      let element = element_node h inside in
      let m = place.margin in
      let one_text = entered_text frames place.pre_span m h inside entered in
      let one_faults = entered_faults frames place.pre_span m.pretty h inside entered in
      let texts = rw (rest_text_first frames outer element others opened due, ← is_place) at here.agrees in
      let faults = rw (rest_faults_first frames outer element others opened, ← is_place) at here.clean in
      record {
        agrees = begun text (indent_where (place.has_indents && has_indent due element) m.level)
            (first_text frames place.pre_span m element)
            (nodes_text frames h.pre_span true (margin_inside m h inside) inside)
            (end_tag_text h.name)
            (rest_text frames outer (m.pretty && due_after due element) others opened)
            new_text (start ++ outside_text frames outer whole) w.agrees
            (rw one_text at texts);
        clean = rw (one_faults, w.clean) at faults;
        named = λ r. here.named (rest_named_first frames outer element others opened
            (w.named, r.0) r.1);
      }

  pub enters : {left inside others : NodesView} {n : NodeView} {h : Head} {place : Place}
      {next_due : Bool} {o : OpenElementView} {opened new_opened : List OpenElementView}
      {text new_text : List ℕ} → IsAt frames outer whole start due left opened text →
      left ≡ node n others → place ≡ next_place outer opened →
      WritesNode frames place due n text new_text →
      (n ≡ element_node h inside) × (is_element_entered h inside ≡ true) →
      next_due ≡ (place.margin.pretty && due_after due n) →
      o ≡ open_element h (margin_inside place.margin h inside) next_due others →
      new_opened ≡ o ∷ opened →
      IsAt frames outer whole start true inside new_opened new_text
  enters stands is is_place w entered is_due opening opened_are =
      let element = entered.0 in
      rw (opened_are, opening, is_due, element) (enters_here is_place (rw (is, element) at stands)
      entered.1 (rw element at w))
