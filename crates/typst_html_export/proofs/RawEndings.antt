-- The raw texts of a head end as they did before css came into `style` and anchors were added, if
-- nothing is wrong with the tree that is written: an anchor in a raw text would be a fault.
use Rattle.std.proofs.Common.{◌≡◌, ℕ, Bool, true, false, ◌&&◌, List, [], ◌∷◌, ◌++◌, Option, None, Some, inl, inr, refl, ap, sym, ◌∙◌, codes, bytes_eq}
use Rattle.std.proofs.lemmas.{Bool.{both_ways, cases_Bool, false≢true}, Slice.Eq.{bytes_eq-Decides}}
use Rattle.html_names_core.specs.{Displays.{default_display}, Kinds.{is_escapable_raw, is_mathml, is_metadata_content, is_raw, is_token}}
use Rattle.html_names_core.specs.Names.{stands_in}
use Rattle.html_values_css.specs.Properties.{inline_text}
use Rattle.html_dom_tree.{proofs.Folds.{first-append}, specs.Attributes.{first, or_else, with_value}}
use Rattle.html_dom_tree.specs.Styled.{attrs_with_style, head_with_style, styled_attrs, styled_node, styled_nodes}
use Rattle.html_dom_tree.specs.Tree.{TextPair, Head, tag_node, text_node, element_node, frame_node, NodesView, none, node}
use Rattle.typst_html_encode.proofs.Runs.{left_empty, right_empty}
use Rattle.typst_html_encode.specs.ExportFaults.{attrs_faults, node_faults, nodes_faults, nodes_raw_faults, raw_content_faults, closing_faults, text_faults, void_faults}
use Rattle.typst_html_encode.specs.{FrameWriters.{Frames}, Indented.{NodeEndsWell, NodesEndWell, RawEndsWell}}
use Rattle.typst_html_encode.specs.Layout.{allows_pretty_inside, has_other_type, is_by_lines, is_pretty_inside, nodes_want_pretty, wants_pretty_around}
use Rattle.typst_html_encode.specs.Text.{ends_at_once, escaping_of, nodes_raw_text}
use Rattle.typst_html_spaces.proofs.ReadableNodes.{span_not_raw}
use Rattle.typst_html_spaces.specs.Anchored.{new_id, new_href, with_front_attribute, IsAnchor, anchor, IsGiven, nothing, given, Anchored, IsAny}
use Rattle.typst_html_spaces.specs.Changed.{Change, Changed, at_end, at_tag, after_tag, at_text, around_text, at_element, at_frame}

-- attributes with css in `style` have the types and the `display` that they had

no_type : (name : List ℕ) → bytes_eq name (codes "style") ≡ true →
    bytes_eq name (codes "type") ≡ false
no_type name e =
    ap (λ n. bytes_eq n (codes "type")) ((bytes_eq-Decides name (codes "style")).0 e)

no_display : (name : List ℕ) → bytes_eq name (codes "style") ≡ true →
    bytes_eq name (codes "display") ≡ false
no_display name e =
    ap (λ n. bytes_eq n (codes "display")) ((bytes_eq-Decides name (codes "style")).0 e)

type_by_value : (attrs : List TextPair) (value : List ℕ) →
    has_other_type (with_value attrs (codes "style") value) ≡ has_other_type attrs
type_by_value [] value = refl
type_by_value (p ∷ ps) value = elim (cases_Bool (bytes_eq p.0 (codes "style"))) [
  | inl s ↦ rw (s, no_type p.0 s) refl
  | inr s ↦ rw (s, type_by_value ps value) refl
]

type_behind : (attrs : List TextPair) (value : List ℕ) →
    has_other_type (attrs ++ (codes "style", value) ∷ []) ≡ has_other_type attrs
type_behind [] value = refl
type_behind (p ∷ ps) value = rw (type_behind ps value) refl

type_styled : (css attrs : List TextPair) →
    has_other_type (styled_attrs css attrs) ≡ has_other_type attrs
type_styled [] attrs = refl
type_styled (p ∷ ps) attrs = by (first attrs (codes "style"))
  where
    by : (old : Option (List ℕ)) →
        has_other_type (attrs_with_style (inline_text (p ∷ ps)) attrs old) ≡ has_other_type attrs
    by None = type_behind attrs (inline_text (p ∷ ps))
    by (Some value) = type_by_value attrs _

display_by_value : (attrs : List TextPair) (value : List ℕ) →
    first (with_value attrs (codes "style") value) (codes "display") ≡ first attrs (codes "display")
display_by_value [] value = refl
display_by_value (p ∷ ps) value = elim (cases_Bool (bytes_eq p.0 (codes "style"))) [
  | inl s ↦ rw (s, no_display p.0 s) refl
  | inr s ↦ rw (s, display_by_value ps value) refl
]

or_none : (o : Option (List ℕ)) → or_else o None ≡ o
or_none None = refl
or_none (Some value) = refl

display_styled : (css attrs : List TextPair) →
    first (styled_attrs css attrs) (codes "display") ≡ first attrs (codes "display")
display_styled [] attrs = refl
display_styled (p ∷ ps) attrs = by (first attrs (codes "style"))
  where
    by : (old : Option (List ℕ)) →
        first (attrs_with_style (inline_text (p ∷ ps)) attrs old) (codes "display")
        ≡ first attrs (codes "display")
    by None =
        first-append attrs ((codes "style", inline_text (p ∷ ps)) ∷ []) (codes "display")
        ∙ or_none (first attrs (codes "display"))
    by (Some value) = display_by_value attrs _

-- so an element is laid out as before

record SameLayout (h g : Head) : Type 0 where
  name : g.name ≡ h.name
  by_lines : is_by_lines g ≡ is_by_lines h
  around : wants_pretty_around g ≡ wants_pretty_around h

same_layout : (h g : Head) → g.name ≡ h.name → has_other_type g.attrs ≡ has_other_type h.attrs →
    first g.attrs (codes "display") ≡ first h.attrs (codes "display") → SameLayout h g
unfolding is_by_lines wants_pretty_around
same_layout h g name types display = record {
  name = name;
  by_lines = rw (name, types) refl;
  around = rw (name, display) refl;
}

given_layout : {h g : Head} → IsGiven IsAny h g → SameLayout h g
given_layout (nothing {h = h}) = same_layout h h refl refl refl
given_layout (given {h = h} new_id value i) =
    same_layout h (with_front_attribute new_id value h) refl refl refl
given_layout (given {h = h} new_href value i) =
    same_layout h (with_front_attribute new_href value h) refl refl refl

layout_there : (h g : Head) → IsGiven IsAny (head_with_style h) g → SameLayout h g
layout_there h g i =
    let before = same_layout h (head_with_style h) refl (type_styled h.css h.attrs)
    (display_styled h.css h.attrs) in
    let more = given_layout i in
    record {
      name = more.name ∙ before.name;
      by_lines = more.by_lines ∙ before.by_lines;
      around = more.around ∙ before.around;
    }

-- nodes, and the same with css in `style` and with anchors

abbrev pub written_change : Change
written_change = record {
  after = IsAnchor IsAny;
  around = λ h s. IsAnchor IsAny h;
  head = λ h g. IsGiven IsAny (head_with_style h) g;
}

pub styled_anchored : (ns : NodesView) {ms : NodesView} → Anchored IsAny (styled_nodes ns) ms →
    Changed written_change ns ms
unfolding styled_node
styled_anchored none at_end = at_end
styled_anchored (node (tag_node t) ns) (at_tag a) = at_tag (styled_anchored ns a)
styled_anchored (node (tag_node t) ns) (after_tag i a) = after_tag i (styled_anchored ns a)
styled_anchored (node (text_node s span) ns) (at_text a) = at_text (styled_anchored ns a)
styled_anchored (node (text_node s span) ns) (around_text i a) =
    around_text i (styled_anchored ns a)
styled_anchored (node (element_node h kids) ns) (at_element i a b) =
    at_element i (styled_anchored kids a) (styled_anchored ns b)
styled_anchored (node (frame_node f) ns) (at_frame a) = at_frame (styled_anchored ns a)

anchor_around : {h : Head} → IsAnchor IsAny h → wants_pretty_around h ≡ false
unfolding wants_pretty_around allows_pretty_inside is_mathml is_token is_metadata_content default_display stands_in
anchor_around (anchor id span i) = refl

anchor_not_raw : {h : Head} → IsAnchor IsAny h → is_raw h.name ≡ false
anchor_not_raw (anchor id span i) = span_not_raw

want_kept : {ns ms : NodesView} → Changed written_change ns ms →
    nodes_want_pretty ms ≡ nodes_want_pretty ns
want_kept at_end = refl
want_kept (at_tag a) = want_kept a
want_kept (after_tag i a) = rw (anchor_around i, want_kept a) refl
want_kept (at_text a) = want_kept a
want_kept (around_text i a) = rw (anchor_around i, want_kept a) refl
want_kept (at_element {h = h} {g = g} i a b) = rw ((layout_there h g i).around, want_kept b) refl
want_kept (at_frame a) = refl

inside_kept : (h g : Head) {kids new : NodesView} → SameLayout h g →
    Changed written_change kids new → is_pretty_inside g new ≡ is_pretty_inside h kids
unfolding is_pretty_inside
inside_kept h g same a = rw (same.name, want_kept a) refl

-- in a raw text without a fault there is no anchor

raw_text_kept : (x : _) {kids new : NodesView} → Changed written_change kids new →
    nodes_raw_faults x new ≡ [] → nodes_raw_text new ≡ nodes_raw_text kids
raw_text_kept x at_end f = refl
raw_text_kept x (at_tag a) f = raw_text_kept x a f
raw_text_kept x (after_tag i a) f = cc
raw_text_kept x (at_text {s = s} {span = span} a) f = ap (λ more. s ++ more)
    (raw_text_kept x a (right_empty (text_faults x span s) _ f))
raw_text_kept x (around_text i a) f = cc
raw_text_kept x (at_element i a b) f = cc
raw_text_kept x (at_frame a) f = cc

no_children : (x : _) (span : ℕ) (ns : NodesView) → void_faults span ns ≡ [] →
    nodes_raw_faults x ns ≡ []
no_children x span none f = refl
no_children x span (node n ns) f = cc

texts_end_well : (x : _) (ns : NodesView) (pretty : Bool) → nodes_raw_faults x ns ≡ [] →
    NodesEndWell pretty ns
unfolding NodeEndsWell
texts_end_well x none pretty f = tt
texts_end_well x (node (tag_node t) ns) pretty f = (tt, texts_end_well x ns pretty f)
texts_end_well x (node (text_node s span) ns) pretty f =
    (tt, texts_end_well x ns pretty (right_empty (text_faults x span s) _ f))
texts_end_well x (node (element_node h kids) ns) pretty f = cc
texts_end_well x (node (frame_node b) ns) pretty f = cc

raw_ends : (pretty : Bool) (h g : Head) (kids new : NodesView) → SameLayout h g →
    nodes_raw_text new ≡ nodes_raw_text kids → (is_raw h.name ≡ true → RawEndsWell pretty h kids) →
    is_raw g.name ≡ true → RawEndsWell pretty g new
raw_ends pretty h g kids new same text e r =
    rw (same.by_lines, same.name, text) (e (ap is_raw (sym same.name) ∙ r))

module _ (frames : Frames) where
  -- an element whose own children end well
  element_ends : (h g : Head) (kids new : NodesView) (pre_span mode pretty : Bool) →
      SameLayout h g → Changed written_change kids new →
      node_faults frames pre_span mode (element_node g new) ≡ [] →
      (is_raw h.name ≡ true → RawEndsWell pretty h kids) →
      (nodes_faults frames g.pre_span (mode && is_pretty_inside g new) new ≡ [] →
      NodesEndWell (pretty && is_pretty_inside g new) new) →
      NodeEndsWell pretty (element_node g new)
  unfolding NodeEndsWell node_faults
  element_ends h g kids new pre_span mode pretty same a f raw inside =
      let deep = pretty && is_pretty_inside g new in
      let c = right_empty (attrs_faults g.span g.attrs) _ f in
      elim (cases_Bool (ends_at_once g)) [
        | inl o ↦
            let v : void_faults g.span new ≡ [] = rw o at c in
            let fine = no_children (escaping_of false) g.span new v in (
              raw_ends pretty h g kids new same (raw_text_kept (escaping_of false) a fine) raw,
              texts_end_well (escaping_of false) new deep fine,
            )
        | inr o ↦ elim (cases_Bool (is_raw g.name)) [
          | inl r ↦
              let v : raw_content_faults g new ≡ [] = rw (o, r) at c in
              let fine = left_empty _ (closing_faults g new) v in
              let text : nodes_raw_text new ≡ nodes_raw_text kids = search (raw_text_kept, a, fine) in
              let inner : NodesEndWell deep new = search (texts_end_well, fine) in
              (raw_ends pretty h g kids new same text raw, inner)
          | inr r ↦ elim (cases_Bool (is_escapable_raw g.name)) [
            | inl x ↦
                let v : nodes_raw_faults (escaping_of false) new ≡ [] = rw (o, r, x) at c in (
                  λ e. absurd (both_ways (is_raw g.name) r e),
                  texts_end_well (escaping_of false) new deep v,
                )
            | inr x ↦
                let v : nodes_faults frames g.pre_span (mode && is_pretty_inside g new) new ≡ [] =
                rw (o, r, x) at c in
                (λ e. absurd (both_ways (is_raw g.name) r e), inside v)
          ]
        ]
      ]

  pub ends_kept : {ns ms : NodesView} → Changed written_change ns ms →
      (pre_span mode pretty : Bool) → nodes_faults frames pre_span mode ms ≡ [] →
      NodesEndWell pretty ns → NodesEndWell pretty ms
  unfolding NodeEndsWell node_faults
  ends_kept at_end pre_span mode pretty f e = tt
  ends_kept (at_tag a) pre_span mode pretty f e =
      (tt, ends_kept a pre_span mode pretty f e.1)
  ends_kept (after_tag {h = h} {ms = ms} i a) pre_span mode pretty f e = (
    tt,
    (
      (λ r. absurd (both_ways (is_raw h.name) (anchor_not_raw i) r), tt),
      ends_kept a pre_span mode pretty
          (right_empty (node_faults frames pre_span mode (element_node h none)) _ f) e.1,
    ),
  )
  ends_kept (at_text {s = s} {span = span} a) pre_span mode pretty f e = (
    tt,
    ends_kept a pre_span mode pretty (right_empty (text_faults (escaping_of pre_span) span s) _ f) e.1,
  )
  ends_kept (around_text {s = s} {span = span} {h = h} i a) pre_span mode pretty f e = (
    (λ r. absurd (both_ways (is_raw h.name) (anchor_not_raw i) r), (tt, tt)),
    ends_kept a pre_span mode pretty (right_empty
        (node_faults frames pre_span mode (element_node h (node (text_node s span) none))) _ f) e.1,
  )
  ends_kept (at_element {h = h} {g = g} {kids = kids} {new = new} {ms = ms} i a b)
      pre_span mode pretty f e =
      let same = layout_there h g i in
      let own = node_faults frames pre_span mode (element_node g new) in (
        element_ends h g kids new pre_span mode pretty same a
            (left_empty own (nodes_faults frames pre_span mode ms) f) e.0.0
            (λ fine. ends_kept a g.pre_span (mode && is_pretty_inside g new)
            (pretty && is_pretty_inside g new) fine (rw (inside_kept h g same a) e.0.1)),
        ends_kept b pre_span mode pretty (right_empty own (nodes_faults frames pre_span mode ms) f) e.1,
      )
  ends_kept (at_frame {g = g} a) pre_span mode pretty f e = (
    tt,
    ends_kept a pre_span mode pretty
        (right_empty (node_faults frames pre_span mode (frame_node g)) _ f) e.1,
  )

-- without lines of its own a raw text ends well in any case

never_by_lines : (ns : NodesView) → NodesEndWell false ns
unfolding NodeEndsWell
never_by_lines none = tt
never_by_lines (node (tag_node t) ns) = (tt, never_by_lines ns)
never_by_lines (node (text_node s span) ns) = (tt, never_by_lines ns)
never_by_lines (node (element_node h kids) ns) =
    ((λ r e. absurd (false≢true e), never_by_lines kids), never_by_lines ns)
never_by_lines (node (frame_node b) ns) = (tt, never_by_lines ns)

pub in_any_mode : (pretty : Bool) (ns : NodesView) → NodesEndWell true ns → NodesEndWell pretty ns
in_any_mode true ns e = e
in_any_mode false ns e = never_by_lines ns
