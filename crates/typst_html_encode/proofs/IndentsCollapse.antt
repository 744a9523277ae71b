-- Indents are not seen: each touches a border.
use Rattle.std.proofs.Common.{◌≡◌, ◌⊎◌, ℕ, zero, suc, ◌+◌, List, [], ◌∷◌, ◌++◌, Bool, true, false, cond, ◌||◌, Some, refl, ap, sym, ◌∙◌, inl, inr, append_assoc, append-nil, codes}
use Rattle.std.proofs.lemmas.{Bool.{cases_Bool, and_parts, both_ways, and_right}, Slice.Eq.{bytes_eq-Decides}}
use Rattle.std.specs.Prelude.{bytes_eq, option_map}
use Rattle.html_names_core.specs.{Displays.{default_display}, Kinds.{is_raw, is_escapable_raw, is_replaced, is_line_break}}
use Rattle.html_names_core.specs.Names.{stands_in}
use Rattle.html_dom_tree.specs.PlainTree.{Plains, nodes_normal}
use Rattle.html_dom_tree.specs.Tree.{TextPair, Head, NodeView, tag_node, text_node, element_node, frame_node, NodesView, none, node}
use Rattle.html_dom_shown.proofs.{Bodies.{body_in_normal, past_words}, NodeAtoms.{node_atoms, nodes_atoms, normal_atoms}}
use Rattle.html_dom_shown.specs.Bodies.{body_children, body_in}
use Rattle.html_dom_shown.specs.Collapsing.{Atom, ignorable, collapsible, object, border, edge, merged_edges, text_atoms, preserves, has_border_display, has_border, element_atoms, plains_atoms, is_supported_by, then_supports, atoms_pieces, collapsed_pieces}
use Rattle.typst_html_encode.{proofs.Plainly.{children_stay}, specs.Indented.{with_indent, node_layout, nodes_layout, content_layout}}
use Rattle.typst_html_encode.specs.IndentsCollapse.{HeadIsEdged, NodesAreEdged, ContentCollapses, BodyCollapses}
use Rattle.typst_html_encode.specs.Layout.{spaces, indent, allows_pretty_inside, wants_pretty_around, nodes_want_pretty, is_pretty_inside}
use Rattle.typst_html_encode.specs.{Text.{ends_at_once}, declared.layout.Margin.{Margin}}

-- the lists look the same from before, and are seen the same after what supports and after what
-- does not; where an indent is due, right after a border alone
record Same (due : Bool) (us vs : List Atom) : Type 0 where
  before : is_supported_by us ≡ is_supported_by vs
  after : (b : Bool) → atoms_pieces (cond due false b) us ≡ atoms_pieces (cond due false b) vs

-- nothing before the list stays for its sake, and it is seen the same after anything
record IsClosed (us : List Atom) : Type 0 where
  before : is_supported_by us ≡ false
  after : (b : Bool) → atoms_pieces b us ≡ atoms_pieces false us

before_one : (x : Atom) (us vs : List Atom) → is_supported_by us ≡ is_supported_by vs →
    is_supported_by (x ∷ us) ≡ is_supported_by (x ∷ vs)
before_one (ignorable c) us vs e = e
before_one (collapsible c) us vs e = e
before_one x us vs e = refl

under : {us vs : List Atom} (xs : List Atom) → Same false us vs → Same false (xs ++ us) (xs ++ vs)
under [] s = s
under (x ∷ xs) s =
    let r = under xs s in
    record {
      before = before_one x _ _ r.before;
      after = λ b. rw (r.before, r.after (then_supports b x)) refl;
    }

before_border : {us vs : List Atom} (due : Bool) → Same due us vs →
    Same false (border ∷ us) (border ∷ vs)
before_border true s = record { before = refl; after = λ b. ap (λ l. edge ∷ l) (s.after false) }
before_border false s = record { before = refl; after = λ b. ap (λ l. edge ∷ l) (s.after false) }

-- blanks

spaces_skipped : (level : ℕ) (us : List Atom) →
    is_supported_by (text_atoms false (spaces level) ++ us) ≡ is_supported_by us
spaces_skipped zero us = refl
spaces_skipped (suc level) us = spaces_skipped level us

blank_after : (c : ℕ) (us : List Atom) →
    atoms_pieces false (collapsible c ∷ us) ≡ atoms_pieces false us
blank_after c us = rw (and_right (is_supported_by us) false refl) refl

spaces_after : (level : ℕ) (us : List Atom) →
    atoms_pieces false (text_atoms false (spaces level) ++ us) ≡ atoms_pieces false us
spaces_after zero us = refl
spaces_after (suc level) us =
    blank_after 32 (collapsible 32 ∷ (text_atoms false (spaces level) ++ us))
    ∙ (blank_after 32 (text_atoms false (spaces level) ++ us) ∙ spaces_after level us)

indent_skipped : (level : ℕ) (us : List Atom) →
    is_supported_by (text_atoms false (indent level) ++ us) ≡ is_supported_by us
unfolding indent
indent_skipped level us = spaces_skipped level us

indent_after : (level : ℕ) (us : List Atom) →
    atoms_pieces false (text_atoms false (indent level) ++ us) ≡ atoms_pieces false us
unfolding indent
indent_after level us =
    blank_after 10 (text_atoms false (spaces level) ++ us) ∙ spaces_after level us

indent_before : (level : ℕ) {us : List Atom} → IsClosed us → (b : Bool) →
    atoms_pieces b (text_atoms false (indent level) ++ us) ≡ atoms_pieces b us
unfolding indent
indent_before level {us} c b =
    rw (spaces_skipped level us, c.before, c.after b) (spaces_after level us)

-- an indent where one is due, or where the list begins with a border
with_indent_same : (due wants : Bool) (level : ℕ) {us vs : List Atom} → Same false us vs →
    (wants ≡ true → IsClosed us) →
    Same due (cond (due || wants) (text_atoms false (indent level)) [] ++ us) vs
with_indent_same true wants level {us} s closed = record {
  before = indent_skipped level us ∙ s.before;
  after = λ b. indent_after level us ∙ s.after false;
}
with_indent_same false true level {us} s closed = record {
  before = indent_skipped level us ∙ s.before;
  after = λ b. indent_before level (closed refl) b ∙ s.after b;
}
with_indent_same false false level s closed = s

-- elements

-- the margin of pretty writing on a level
abbrev pretty_at : (level : ℕ) → Margin
pretty_at level = record { pretty = true; level = level }

open_allows : (h : Head) (ns : NodesView) → is_pretty_inside h ns ≡ true →
    allows_pretty_inside h.name ≡ true
unfolding is_pretty_inside
open_allows h ns e = (and_parts (allows_pretty_inside h.name) (nodes_want_pretty ns) e).0

content_cases : (level : ℕ) (h : Head) (ns : NodesView) → is_raw h.name ≡ false
    → (content_layout (pretty_at level) h ns ≡ ns) ⊎
    ((is_pretty_inside h ns ≡ true) × (content_layout (pretty_at level) h ns
    ≡ nodes_layout true (pretty_at level) ns))
content_cases level h ns r =
    elim (cases_Bool (ends_at_once h)) [
      | inl e ↦ inl (rw e refl)
      | inr e ↦ elim (cases_Bool (is_escapable_raw h.name)) [
        | inl s ↦ inl (rw (e, r, s) refl)
        | inr s ↦ elim (cases_Bool (is_pretty_inside h ns)) [
          | inl o ↦ inr (o, rw (e, r, s, o) refl)
          | inr o ↦ inl (rw (e, r, s, o) (children_stay ns true level))
        ]
      ]
    ]

break_shows_none : has_border_display (codes "br") ≡ false
unfolding default_display stands_in
break_shows_none = refl

border_is_no_break : (name : List ℕ) → has_border_display name ≡ true → is_line_break name ≡ false
unfolding stands_in
border_is_no_break name h = elim (cases_Bool (bytes_eq (codes "br") name)) [
  | inl e ↦ absurd (both_ways (has_border_display name) (ap has_border_display
      (sym ((bytes_eq-Decides (codes "br") name).0 e)) ∙ break_shows_none) h)
  | inr e ↦ rw e refl
]

-- what stands inside a border: the one object of a replaced element, or the content
core_same : (replaced : Bool) (name : List ℕ) (inner inner' : List Atom) {us vs : List Atom} →
    Same true (inner ++ us) (inner' ++ vs) → Same false us vs →
    Same true (cond replaced (object name ∷ []) inner ++ us)
    (cond replaced (object name ∷ []) inner' ++ vs)
core_same true name inner inner' s t =
    let o = under (object name ∷ []) t in record { before = o.before; after = λ b. o.after false }
core_same false name inner inner' s t = s

-- an element with a border
module _ (name : List ℕ) (attrs : List TextPair) (e : has_border_display name ≡ true) where
  edged : (inner us : List Atom) → element_atoms name attrs inner ++ us
      ≡ border ∷ (cond (is_replaced name) (object name ∷ []) inner ++ border ∷ us)
  unfolding has_border
  edged inner us = rw (border_is_no_break name e, e) (ap (λ l. border ∷ l)
      (append_assoc (cond (is_replaced name) (object name ∷ []) inner) (border ∷ []) us))

  -- its contents are the same after a border, before one
  edged_same : (inner inner' : List Atom) {us vs : List Atom} →
      Same true (inner ++ border ∷ us) (inner' ++ border ∷ vs) →
      Same false (border ∷ us) (border ∷ vs) →
      Same false (element_atoms name attrs inner ++ us) (element_atoms name attrs inner' ++ vs)
  edged_same inner inner' {us} {vs} s t = rw (edged inner us, edged inner' vs)
      (before_border true (core_same (is_replaced name) name inner inner' s t))

  edged_closed : (inner us : List Atom) → IsClosed (element_atoms name attrs inner ++ us)
  edged_closed inner us = rw (edged inner us) (record { before = refl; after = λ b. refl })

-- the same inside: what follows is the same, right after a border where the element wants indents
same_inside : (h : Head) (ns : NodesView) {us vs : List Atom} → HeadIsEdged h →
    Same (wants_pretty_around h) us vs →
    Same false (node_atoms false (element_node h ns) ++ us)
    (node_atoms false (element_node h ns) ++ vs)
same_inside h ns c s = elim (cases_Bool (wants_pretty_around h)) [
  | inl w ↦
      let inner = nodes_atoms (preserves h.name h.attrs) ns in
      let t = before_border _ s in
      let u = under inner t in
      edged_same h.name h.attrs (c.1 w) inner inner
      (record { before = u.before; after = λ b. u.after false }) t
  | inr w ↦ under _ (rw w at s)
]

moved : {due : Bool} {us us' vs vs' : List Atom} → us ≡ us' → vs ≡ vs' → Same due us' vs' →
    Same due us vs
moved e f s = rw (e, f) s

-- a child, and the indent before it
step : (b : Bool) (level : ℕ) (n : NodeView) (ns : NodesView) (us : List Atom)
    → nodes_atoms false (with_indent b level (node n ns)) ++ us
    ≡ cond b (text_atoms false (indent level)) []
    ++ (node_atoms false n ++ (nodes_atoms false ns ++ us))
step true level n ns us = append_assoc (text_atoms false (indent level))
    (node_atoms false n ++ nodes_atoms false ns) us
    ∙ ap (λ l. text_atoms false (indent level) ++ l)
    (append_assoc (node_atoms false n) (nodes_atoms false ns) us)
step false level n ns us = append_assoc (node_atoms false n) (nodes_atoms false ns) us

text_same : (due : Bool) (level : ℕ) {us vs : List Atom} → Same false us vs →
    Same due (cond due (text_atoms false (indent level)) [] ++ us) vs
text_same true level s = with_indent_same true false level s (λ e. cc)
text_same false level s = s

-- the rows before what is closed
abbrev RowSame : (due : Bool) (level : ℕ) → NodesView → Type 0
RowSame due level ns = (us vs : List Atom) → IsClosed us → IsClosed vs →
    atoms_pieces false us ≡ atoms_pieces false vs →
    Same due (nodes_atoms false (nodes_layout due (pretty_at level) ns) ++ us)
    (nodes_atoms false ns ++ vs)

-- an element and its content on a level
one : (level : ℕ) (h : Head) (ns : NodesView) {us vs : List Atom} → HeadIsEdged h →
    RowSame true level ns → Same (wants_pretty_around h) us vs →
    Same false (node_atoms false (element_node h (content_layout (pretty_at level) h ns)) ++ us)
    (node_atoms false (element_node h ns) ++ vs)
one level h ns c row s = elim (content_cases level h ns c.0) [
  | inl e ↦ rw e (same_inside h ns c s)
  | inr e ↦
      let a = c.2 (open_allows h ns e.0) in
      let t = before_border _ s in
      let closed : (l : List Atom) → IsClosed (border ∷ l) =
      λ l. record { before = refl; after = λ b. refl } in
      rw (e.1, a.1) (edged_same h.name h.attrs a.0
      (nodes_atoms false (nodes_layout true (pretty_at level) ns)) (nodes_atoms false ns)
      (row _ _ (closed _) (closed _) (t.after false)) t)
]

row : (ns : NodesView) (due : Bool) (level : ℕ) → NodesAreEdged ns → RowSame due level ns
unfolding node_layout nodes_layout
row none due level c us vs cu cv e = rw (append-nil (text_atoms false (indent level))) (record {
  before = indent_skipped level us ∙ (cu.before ∙ sym cv.before);
  after = λ b. indent_before level cu _ ∙ (cu.after _ ∙ (e ∙ sym (cv.after _)));
})
row (node (tag_node t) ns) due level c us vs cu cv e = row ns due level c us vs cu cv e
row (node (text_node s span) ns) due level c us vs cu cv e =
    moved (step due (level + 1) (text_node s span) (nodes_layout false (pretty_at level) ns) us)
    (append_assoc (text_atoms false s) (nodes_atoms false ns) vs)
    (text_same due (level + 1) (under (text_atoms false s) (row ns false level c us vs cu cv e)))
row (node (frame_node b) ns) due level c us vs cu cv e = absurd c
row (node (element_node h below) ns) due level c us vs cu cv e =
    let wants = wants_pretty_around h in
    moved (step (due || wants) (level + 1)
    (element_node h (content_layout (pretty_at (level + 1)) h below))
    (nodes_layout wants (pretty_at level) ns) us)
    (append_assoc (node_atoms false (element_node h below)) (nodes_atoms false ns) vs)
    (with_indent_same due wants (level + 1)
    (one (level + 1) h below c.0.0 (row below true (level + 1) c.0.1)
    (row ns wants level c.1 us vs cu cv e))
    (λ w. edged_closed h.name h.attrs (c.0.0.1 w) _ _))

-- the content of an element that is no raw one
pub content_collapses : ContentCollapses
content_collapses level h ns r c = elim (content_cases level h ns r) [
  | inl e ↦ rw e refl
  | inr e ↦
      let closed : IsClosed [] = record { before = refl; after = λ b. refl } in
      let s = row ns true level c [] [] closed closed refl in
      rw e.1 (ap collapsed_pieces (normal_atoms _ false)
      ∙ (ap (merged_edges false) (simp append-nil at (s.after false))
      ∙ ap collapsed_pieces (sym (normal_atoms ns false))))
]

-- the body

past_indent : (b : Bool) (level : ℕ) (ns : NodesView) →
    body_in (nodes_normal (with_indent b level ns)) ≡ body_in (nodes_normal ns)
unfolding nodes_normal
past_indent true level ns = past_words (indent level) (nodes_normal ns)
past_indent false level ns = refl

pub body_is_not_raw : is_raw (codes "body") ≡ false
unfolding is_raw stands_in
body_is_not_raw = refl

is_body : (name : List ℕ) → bytes_eq name (codes "body") ≡ true → is_raw name ≡ false
is_body name e = ap is_raw ((bytes_eq-Decides name (codes "body")).0 e) ∙ body_is_not_raw

pub body_normal : (ns below : NodesView) → body_children ns ≡ Some below →
    body_in (nodes_normal ns) ≡ Some (nodes_normal below)
body_normal ns below e = body_in_normal ns ∙ ap (option_map nodes_normal) e

-- the first body of the row collapses to the same
abbrev HoldsBody : NodesView → NodesView → Type 0
HoldsBody ms below = (inside : Plains) × (body_in (nodes_normal ms) ≡ Some inside)
    × (collapsed_pieces (plains_atoms false inside)
    ≡ collapsed_pieces (plains_atoms false (nodes_normal below)))

row_body : (due : Bool) (level : ℕ) (ns below : NodesView) → body_children ns ≡ Some below →
    NodesAreEdged below → HoldsBody (nodes_layout due (pretty_at level) ns) below
unfolding node_layout nodes_layout nodes_normal
row_body due level none below e c = absurd (cc)
row_body due level (node (tag_node t) ns) below e c = row_body due level ns below e c
row_body due level (node (text_node s span) ns) below e c =
    let r = row_body false level ns below e c in (
      r.0,
      past_indent due (level + 1) (node (text_node s span)
          (nodes_layout false (pretty_at level) ns))
          ∙ (past_words s (nodes_normal (nodes_layout false (pretty_at level) ns)) ∙ r.1),
      r.2,
    )
row_body due level (node (frame_node b) ns) below e c =
    let r = row_body false level ns below e c in (
      r.0,
      past_indent due (level + 1) (node (frame_node b)
          (nodes_layout false (pretty_at level) ns)) ∙ r.1,
      r.2,
    )
row_body due level (node (element_node h kids) ns) below e c =
    let more = nodes_layout (wants_pretty_around h) (pretty_at level) ns in
    let inner = content_layout (pretty_at (level + 1)) h kids in
    let past = past_indent (due || wants_pretty_around h) (level + 1)
    (node (element_node h inner) more) in
    elim (cases_Bool (bytes_eq h.name (codes "body"))) [
      | inl t ↦
          let f : Some kids ≡ Some below = rw t at e in
          let g : kids ≡ below = cc in (
            nodes_normal inner,
            past ∙ rw t refl,
            rw g (content_collapses (level + 1) h below (is_body h.name t) c),
          )
      | inr t ↦
          let f : body_children ns ≡ Some below = rw t at e in
          let r = row_body (wants_pretty_around h) level ns below f c in
          (r.0, past ∙ rw t r.1, r.2)
    ]

pub body_collapses : BodyCollapses
body_collapses e below r is c =
    elim (content_cases 0 e.0 e.1 r) [
      | inl k ↦ rw k (nodes_normal below, body_normal e.1 below is, refl)
      | inr k ↦ rw k.1 (row_body true 0 e.1 below is c)
    ]
