-- What a walk over a flat tree writes for a node, and what it has left.
use Rattle.std.proofs.Common.{◌≡◌, ℕ, ◌+◌, ◌*◌, ◌&&◌, not, Bool, true, false, List, [], ◌∷◌, ◌++◌, inl, inr, refl, sym, ap, append_assoc, append-nil, subst}
use Rattle.std.proofs.lemmas.Bool.{and_right, cases_Bool}
use Rattle.std.specs.Prelude.{if◌then◌else◌, Result}
use Rattle.html_dom_tree.specs.Tree.{Head, NodeView, tag_node, text_node, element_node, frame_node, NodesView, none, node}
use Rattle.typst_html_encode.proofs.{Firsts.{first_of_more}, Named.{texts_named, raw_content_named, childless_named}, Runs.{right_empty}}
use Rattle.typst_html_encode.specs.{Content.{content_kind, by_kind}, Endings.{Adds}}
use Rattle.typst_html_encode.specs.ExportFaults.{IsFirst, element_faults, attrs_faults, void_faults, raw_content_faults, nodes_raw_faults, node_faults, nodes_faults}
use Rattle.typst_html_encode.specs.FrameWriters.{Frames}
use Rattle.typst_html_encode.specs.Layout.{raw_text, has_indent, due_after, indent_where, margin_inside, allows_pretty_inside, is_pretty_inside}
use Rattle.typst_html_encode.specs.ReadingBack.{NodeIsNamed, NodesAreNamed, ElementIsNamed}
use Rattle.typst_html_encode.specs.Text.{element_text, start_tag_text, end_tag_text, ends_at_once, feed_text, escaped_text, nodes_raw_text, node_text, nodes_text}
use Rattle.typst_html_encode.specs.WriterWalk.{has_nodes, is_element_entered, first_text, first_faults, FirstIsNamed, node_is_entered, OpenElementView, outside_text, next_place}
use Rattle.typst_html_encode.specs.declared.content.{ContentKind.{ContentKind}, ContentKind.TheVariants.{Raw, EscapableRaw, Nodes}}
use Rattle.typst_html_encode.specs.declared.escape.Escaping.TheVariants as escaping
use Rattle.typst_html_encode.specs.declared.{fault.ExportFault.{ExportFault}, layout.Margin.{Margin}}
use Rattle.html_dom_flat.specs.Flat.{nodes_count}

-- a node that the walk enters, and one that it does not

entered_is : (once : Bool) (kind : ContentKind) (some : Bool) →
    (not once && by_kind kind false false some) ≡ true →
    (once ≡ false) × (kind ≡ Nodes) × (some ≡ true)
entered_is true kind some e = cc
entered_is false Raw some e = cc
entered_is false EscapableRaw some e = cc
entered_is false Nodes some e = (refl, refl, e)

-- what holds of all elements that it does not enter
when_skipped : (P : Bool → ContentKind → Type 0) → ((kind : ContentKind) → P true kind) →
    P false Raw → P false EscapableRaw → (some : Bool) → (some ≡ false → P false Nodes) →
    (once : Bool) (kind : ContentKind) →
    (not once && by_kind kind false false some) ≡ false → P once kind
when_skipped P at_once raw escapable some nodes true kind e = at_once kind
when_skipped P at_once raw escapable some nodes false Raw e = raw
when_skipped P at_once raw escapable some nodes false EscapableRaw e = escapable
when_skipped P at_once raw escapable some nodes false Nodes e = nodes e

-- an element without children has no indent before its end tag
none_inside : (frames : Frames) (margin : Margin) (h : Head) (ns : NodesView) →
    has_nodes ns ≡ false →
    nodes_text frames h.pre_span true (margin_inside margin h ns) ns ≡ []
unfolding nodes_text is_pretty_inside
none_inside frames margin h none e = rw (
  and_right (allows_pretty_inside h.name) false refl,
  and_right margin.pretty false refl,
) refl
none_inside frames margin h (node n ns) e = cc

pub entered_text : (frames : Frames) (pre_span : Bool) (margin : Margin) (h : Head)
    (ns : NodesView) → is_element_entered h ns ≡ true →
    node_text frames pre_span margin (element_node h ns)
    ≡ first_text frames pre_span margin (element_node h ns)
    ++ (nodes_text frames h.pre_span true (margin_inside margin h ns) ns ++ end_tag_text h.name)
unfolding node_text
entered_text frames pre_span margin h ns e =
    let is = entered_is (ends_at_once h) (content_kind h.name) (has_nodes ns) e in
    rw (is.0, is.1, is.2, append-nil (feed_text h ns))
    (sym (append_assoc (start_tag_text h) (feed_text h ns) _))

pub entered_faults : (frames : Frames) (pre_span pretty : Bool) (h : Head) (ns : NodesView) →
    is_element_entered h ns ≡ true →
    node_faults frames pre_span pretty (element_node h ns)
    ≡ first_faults frames pre_span pretty (element_node h ns)
    ++ nodes_faults frames h.pre_span (pretty && is_pretty_inside h ns) ns
unfolding node_faults
entered_faults frames pre_span pretty h ns e =
    let is = entered_is (ends_at_once h) (content_kind h.name) (has_nodes ns) e in
    rw (is.0, is.1, append-nil) refl

pub skipped_text : (frames : Frames) (pre_span : Bool) (margin : Margin) (n : NodeView) →
    node_is_entered n ≡ false →
    node_text frames pre_span margin n ≡ first_text frames pre_span margin n
unfolding node_text
skipped_text frames pre_span margin (tag_node t) e = refl
skipped_text frames pre_span margin (text_node s span) e = refl
skipped_text frames pre_span margin (element_node h ns) e =
    let raw = raw_text margin h (nodes_raw_text ns) in
    let escapable = escaped_text escaping.Text (nodes_raw_text ns) in
    let inner = nodes_text frames h.pre_span true (margin_inside margin h ns) ns in
    let end = end_tag_text h.name in
    let childless = if has_nodes ns then [] else end in
    when_skipped (λ once kind. start_tag_text h
    ++ (if once then [] else (feed_text h ns ++ (by_kind kind raw escapable inner ++ end)))
    ≡ start_tag_text h ++ (if once then [] else (feed_text h ns
    ++ by_kind kind (raw ++ end) (escapable ++ end) childless)))
    (λ kind. refl) refl refl (has_nodes ns)
    (λ empty. rw (none_inside frames margin h ns empty, empty) refl)
    (ends_at_once h) (content_kind h.name) e
skipped_text frames pre_span margin (frame_node f) e = refl

no_faults_inside : (frames : Frames) (pre_span pretty : Bool) (ns : NodesView) →
    has_nodes ns ≡ false → nodes_faults frames pre_span pretty ns ≡ []
unfolding nodes_faults
no_faults_inside frames pre_span pretty none e = refl
no_faults_inside frames pre_span pretty (node n ns) e = cc

none_is_named : (ns : NodesView) → has_nodes ns ≡ false → NodesAreNamed ns
unfolding NodesAreNamed
none_is_named none e = tt
none_is_named (node n ns) e = cc

pub skipped_faults : (frames : Frames) (pre_span pretty : Bool) (n : NodeView) →
    node_is_entered n ≡ false →
    node_faults frames pre_span pretty n ≡ first_faults frames pre_span pretty n
unfolding node_faults
skipped_faults frames pre_span pretty (tag_node t) e = refl
skipped_faults frames pre_span pretty (text_node s span) e = refl
skipped_faults frames pre_span pretty (element_node h ns) e =
    let empty = void_faults h.span ns in
    let raw = raw_content_faults h ns in
    let escapable = nodes_raw_faults escaping.Text ns in
    let inner = nodes_faults frames h.pre_span (pretty && is_pretty_inside h ns) ns in
    when_skipped (λ once kind.
    attrs_faults h.span h.attrs ++ (if once then empty else by_kind kind raw escapable inner)
    ≡ attrs_faults h.span h.attrs ++ (if once then empty else by_kind kind raw escapable []))
    (λ kind. refl) refl refl (has_nodes ns)
    (λ childless. ap (λ fs. attrs_faults h.span h.attrs ++ fs)
    (no_faults_inside frames h.pre_span (pretty && is_pretty_inside h ns) ns childless))
    (ends_at_once h) (content_kind h.name) e
skipped_faults frames pre_span pretty (frame_node f) e = refl

pub skipped_named : (frames : Frames) (pre_span pretty : Bool) (n : NodeView) →
    node_is_entered n ≡ false → FirstIsNamed n → first_faults frames pre_span pretty n ≡ [] →
    NodeIsNamed n
unfolding NodeIsNamed
skipped_named frames pre_span pretty (tag_node t) e named clean = tt
skipped_named frames pre_span pretty (text_node s span) e named clean = tt
skipped_named frames pre_span pretty (element_node h ns) e named clean = (
  named,
  when_skipped (λ once kind. (if once then void_faults h.span ns
      else by_kind kind (raw_content_faults h ns) (nodes_raw_faults escaping.Text ns) []) ≡ [] →
      NodesAreNamed ns) (λ kind. childless_named h.span ns) (raw_content_named h ns)
      (texts_named escaping.Text ns) (has_nodes ns) (λ childless _. none_is_named ns childless)
      (ends_at_once h) (content_kind h.name) e
      (right_empty (attrs_faults h.span h.attrs) _ clean),
)
skipped_named frames pre_span pretty (frame_node f) e named clean = tt

pub first_in_node : (frames : Frames) (pre_span pretty : Bool) (n : NodeView) (e : ExportFault) →
    IsFirst e (first_faults frames pre_span pretty n) →
    IsFirst e (node_faults frames pre_span pretty n)
unfolding node_faults
first_in_node frames pre_span pretty (element_node h ns) e is =
    elim (cases_Bool (is_element_entered h ns)) [
      | inl b ↦ subst (IsFirst e) (sym (entered_faults frames pre_span pretty h ns b))
          (first_of_more e _ _ is)
      | inr b ↦ subst (IsFirst e)
          (sym (skipped_faults frames pre_span pretty (element_node h ns) b)) is
    ]
first_in_node frames pre_span pretty x e is = is

-- what a walk has left to write: nodes in the innermost open element, and what is after each

-- an indent may be due before the first node
abbrev pub rest_text : Frames → (outer : Margin) → (due : Bool) → NodesView → List OpenElementView
    → List ℕ
rest_text frames outer due ns [] = outside_text frames outer ns
rest_text frames outer due ns (o ∷ os) = nodes_text frames o.pre_span due o.margin ns
    ++ (end_tag_text o.name ++ rest_text frames outer o.due_after o.after os)

abbrev pub rest_faults : Frames → (outer : Margin) → NodesView → List OpenElementView
    → List ExportFault
rest_faults frames outer ns [] = nodes_faults frames false outer.pretty ns
rest_faults frames outer ns (o ∷ os) =
    nodes_faults frames o.pre_span o.margin.pretty ns ++ rest_faults frames outer o.after os

abbrev pub RestIsNamed : NodesView → List OpenElementView → Type 0
RestIsNamed ns [] = NodesAreNamed ns
RestIsNamed ns (o ∷ os) = NodesAreNamed ns × RestIsNamed o.after os

-- falls in each turn
abbrev pub rest_size : NodesView → List OpenElementView → ℕ
rest_size ns [] = 2 * nodes_count ns
rest_size ns (o ∷ os) = 2 * nodes_count ns + (1 + rest_size o.after os)

-- where writing is plain it makes no difference whether an indent is due
plain_due : (frames : Frames) (pre_span : Bool) (margin : Margin) (ns : NodesView)
    (due other : Bool) → margin.pretty ≡ false →
    nodes_text frames pre_span due margin ns ≡ nodes_text frames pre_span other margin ns
unfolding nodes_text
plain_due frames pre_span margin none due other plain = refl
plain_due frames pre_span margin (node n ns) due other plain =
    let others = plain_due frames pre_span margin ns (due_after due n) (due_after other n) plain in
    rw (others, plain) refl

due_if_pretty : (frames : Frames) (pre_span : Bool) (margin : Margin) (ns : NodesView)
    (due pretty : Bool) → margin.pretty ≡ pretty →
    nodes_text frames pre_span due margin ns
    ≡ nodes_text frames pre_span (pretty && due) margin ns
due_if_pretty frames pre_span margin ns due true is = refl
due_if_pretty frames pre_span margin ns due false is =
    plain_due frames pre_span margin ns due false is

module _ (frames : Frames) (outer : Margin) (n : NodeView) (ns : NodesView) where
  pub rest_text_first : (os : List OpenElementView) (due : Bool) →
      let place = next_place outer os in
      rest_text frames outer due (node n ns) os
      ≡ indent_where (place.has_indents && has_indent due n) place.margin.level
      ++ (node_text frames place.pre_span place.margin n
      ++ rest_text frames outer (place.margin.pretty && due_after due n) ns os)
  unfolding nodes_text
  rest_text_first [] due = refl
  rest_text_first (o ∷ os) due = rw (
    append_assoc,
    append_assoc,
    due_if_pretty frames o.pre_span o.margin ns (due_after due n) o.margin.pretty refl,
  ) refl

  pub rest_faults_first : (os : List OpenElementView) →
      let place = next_place outer os in
      rest_faults frames outer (node n ns) os
      ≡ node_faults frames place.pre_span place.margin.pretty n
      ++ rest_faults frames outer ns os
  unfolding nodes_faults
  rest_faults_first [] = refl
  rest_faults_first (o ∷ os) = rw append_assoc refl

  pub rest_named_first : (os : List OpenElementView) → NodeIsNamed n → RestIsNamed ns os →
      RestIsNamed (node n ns) os
  unfolding NodesAreNamed
  rest_named_first [] one others = (one, others)
  rest_named_first (o ∷ os) one others = ((one, others.0), others.1)

-- a walk over an element alone writes that element
module _ (frames : Frames) (margin : Margin) (h : Head) (kids ns : NodesView)
    (is : ns ≡ node (element_node h kids) none) where
  pub root_writes : (r : Result (Unit {0}) ExportFault) (old new : List ℕ) →
      Adds r old new (outside_text frames margin ns)
      (nodes_faults frames false margin.pretty ns) →
      Adds r old new (element_text frames margin (h, kids))
      (element_faults frames margin.pretty (h, kids))
  unfolding nodes_faults
  root_writes r old new w = simp append-nil at (rw is at w)

  pub root_named : NodesAreNamed ns → ElementIsNamed (h, kids)
  unfolding NodesAreNamed
  root_named named = (rw is at named).0
