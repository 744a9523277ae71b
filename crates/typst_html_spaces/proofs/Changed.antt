-- What holds of nodes at any depth before they are changed, and then.
use Rattle.std.proofs.{Common.{◌≡◌, ℕ, Bool, true, false, List, inl, inr, refl, ap, ◌∙◌}, lemmas.Bool.{cases_Bool}}
use Rattle.html_dom_tree.specs.{Styled.{head_with_style, styled_nodes}, Tags.{TagView}}
use Rattle.html_dom_tree.specs.Tree.{Head, tag_node, text_node, element_node, frame_node, NodesView, none, node}
use Rattle.html_flow_convert.specs.{BareSpaces.{is_entered}, Nodes.{pre_wrap_head, is_one}}
use Rattle.html_flow_convert.specs.Protected.{is_bare, node_by_answers, nodes_by_answers}
use Rattle.typst_html_spaces.specs.Changed.{Change, Changed, at_end, at_tag, after_tag, at_text, around_text, at_element, at_frame}
use Rattle.typst_html_spaces.specs.DeepNodes.{Wanted, is_empty, HoldsOfAll, of_heads}

pub record HoldsThen (v w : Wanted) (c : Change) : Type 0 where
  pub after : (h : Head) → c.after h → w.head h true
  pub around : (p : Bool) (h : Head) (s : List ℕ) → c.around h s → v.text p s →
      w.head h false × w.text h.pre_span s
  pub head : (h g : Head) → c.head h g → (b : Bool) → v.head h b → w.head g b
  pub flag : (h g : Head) → c.head h g → g.pre_span ≡ h.pre_span
  pub text : (p : Bool) (s : List ℕ) → v.text p s → w.text p s
  pub tag : (t : TagView) → v.tag t → w.tag t
  pub frame : v.frame → w.frame

pub empty_kept : {c : Change} {ns ms : NodesView} → Changed c ns ms → is_empty ms ≡ is_empty ns
empty_kept at_end = refl
empty_kept more = refl

module _ {v w : Wanted} {c : Change} (k : HoldsThen v w c) where
  pub holds_then : {ns ms : NodesView} → Changed c ns ms → (p : Bool) → HoldsOfAll v p ns →
      HoldsOfAll w p ms
  holds_then at_end p r = tt
  holds_then (at_tag {t = t} d) p r = (k.tag t r.0, holds_then d p r.1)
  holds_then (after_tag {t = t} {h = h} i d) p r =
      (k.tag t r.0, ((k.after h i, tt), holds_then d p r.1))
  holds_then (at_text {s = s} d) p r = (k.text p s r.0, holds_then d p r.1)
  holds_then (around_text {s = s} {h = h} i d) p r =
      let both = k.around p h s i r.0 in ((both.0, (both.1, tt)), holds_then d p r.1)
  holds_then (at_element {h = h} {g = g} {kids = kids} i d e) p r = (
    (
      rw (empty_kept d) (k.head h g i (is_empty kids) r.0.0),
      rw (k.flag h g i) (holds_then d h.pre_span r.0.1),
    ),
    holds_then e p r.1,
  )
  holds_then (at_frame d) p r = (k.frame r.0, holds_then d p r.1)

-- heads alone

pub heads_then : (P Q : Head → Type 0) (F : Type 0) (c : Change) → ((h : Head) → c.after h → Q h) →
    ((h : Head) (s : List ℕ) → c.around h s → Q h) →
    ((h g : Head) → c.head h g → (P h → Q g) × (g.pre_span ≡ h.pre_span)) →
    HoldsThen (of_heads P F) (of_heads Q F) c
heads_then P Q F c after around head = record {
  after = after;
  around = λ p h s i r. (around h s i, tt);
  head = λ h g i b. (head h g i).0;
  flag = λ h g i. (head h g i).1;
  text = λ p s r. r;
  tag = λ t r. r;
  frame = λ r. r;
}

-- each head by a function

abbrev pub by_heads : (Head → Head) → Change
by_heads f = record { after = λ h. ⊥; around = λ h s. ⊥; head = λ h g. g ≡ f h }

pub unchanged : (c : Change) → ((h : Head) → c.head h h) → (ns : NodesView) → Changed c ns ns
unchanged c same none = at_end
unchanged c same (node (tag_node t) ns) = at_tag (unchanged c same ns)
unchanged c same (node (text_node s span) ns) = at_text (unchanged c same ns)
unchanged c same (node (element_node h kids) ns) =
    at_element (same h) (unchanged c same kids) (unchanged c same ns)
unchanged c same (node (frame_node f) ns) = at_frame (unchanged c same ns)

heads_by : (f : Head → Head) (P Q : Head → Type 0) (F : Type 0) → ((h : Head) → P h → Q (f h)) →
    ((h : Head) → (f h).pre_span ≡ h.pre_span) → HoldsThen (of_heads P F) (of_heads Q F) (by_heads f)
heads_by f P Q F follow flag = heads_then P Q F (by_heads f) (λ h i. absurd i) (λ h s i. absurd i)
    (λ h g e. (λ r. rw e (follow h r), ap (λ x. x.pre_span) e ∙ flag h))

pub weaker : (P Q : Head → Type 0) (F : Type 0) → ((h : Head) → P h → Q h) → (ns : NodesView)
    (p : Bool) → HoldsOfAll (of_heads P F) p ns → HoldsOfAll (of_heads Q F) p ns
weaker P Q F follow ns = holds_then (heads_by (λ h. h) P Q F follow (λ h. refl))
    (unchanged (by_heads (λ h. h)) (λ h. refl) ns)

-- styles

abbrev pub styles : Change
styles = by_heads head_with_style

pub styled_is_changed : (ns : NodesView) → Changed styles ns (styled_nodes ns)
unfolding styled_nodes
styled_is_changed none = at_end
styled_is_changed (node (tag_node t) ns) = at_tag (styled_is_changed ns)
styled_is_changed (node (text_node s span) ns) = at_text (styled_is_changed ns)
styled_is_changed (node (element_node h kids) ns) =
    at_element refl (styled_is_changed kids) (styled_is_changed ns)
styled_is_changed (node (frame_node f) ns) = at_frame (styled_is_changed ns)

pub heads_styled : (P Q : Head → Type 0) (F : Type 0) → ((h : Head) → P h → Q (head_with_style h)) →
    (ns : NodesView) (p : Bool) → HoldsOfAll (of_heads P F) p ns →
    HoldsOfAll (of_heads Q F) p (styled_nodes ns)
heads_styled P Q F follow ns =
    holds_then (heads_by head_with_style P Q F follow (λ h. refl)) (styled_is_changed ns)

-- lone spaces, each in a `span` of its own where it is not bare

pub data IsWrap : Head → List ℕ → Type 0 where
  wrapped : {s : List ℕ} (span : ℕ) → is_one 32 s ≡ true → IsWrap (pre_wrap_head span) s

abbrev pub wraps : Change
wraps = record { after = λ h. ⊥; around = IsWrap; head = λ h g. g ≡ h }

pub protected_is_changed : (ns : NodesView) (bare : List Bool) →
    Changed wraps ns (nodes_by_answers bare ns)
unfolding node_by_answers
protected_is_changed none bare = at_end
protected_is_changed (node (tag_node t) ns) bare = at_tag (protected_is_changed ns _)
protected_is_changed (node (text_node s span) ns) bare = elim (cases_Bool (is_one 32 s)) [
  | inl e ↦ elim (cases_Bool (is_bare bare)) [
    | inl b ↦ rw (e, b) (at_text (protected_is_changed ns _))
    | inr b ↦ rw (e, b) (around_text (wrapped span e) (protected_is_changed ns _))
  ]
  | inr e ↦ rw e (at_text (protected_is_changed ns _))
]
protected_is_changed (node (element_node h kids) ns) bare = elim (cases_Bool (is_entered h)) [
  | inl e ↦ rw e (at_element refl (protected_is_changed kids bare) (protected_is_changed ns _))
  | inr e ↦ rw e (at_element refl (unchanged wraps (λ g. refl) kids) (protected_is_changed ns _))
]
protected_is_changed (node (frame_node f) ns) bare = at_frame (protected_is_changed ns _)
