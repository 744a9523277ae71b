-- The walk goes past an element of plain flow.
use Rattle.std.proofs.Common.{◌≡◌, ℕ, Bool, true, false, not, cond, List, [], ◌∷◌, None, inl, inr, refl, ap, ◌∙◌, sym, codes, bytes_eq}
use Rattle.std.proofs.{Math.Bool.{or-false}, lemmas.Bool.{cases_Bool, false≢true, or_left, or_right, both_ways, false_from_ne_true}}
use Rattle.std.specs.List.{list_all}
use Rattle.html_names_core.{proofs.Basics.{bytes_eq-same}, specs.Characters.{is_blank, is_ignorable}, specs.Displays.{default_display}}
use Rattle.html_names_core.specs.Kinds.{is_replaced, is_line_break, is_raw, raw_names, is_escapable_raw, escapable_raw_names, is_foreign_self_closing, foreign_self_closing_names, shows_border}
use Rattle.html_names_core.specs.{Names.{stands_in}, Texts.{TextPair}}
use Rattle.html_dom_tree.specs.{Attributes.{first}, Styled.{styled_attrs, styled_node, styled_nodes}}
use Rattle.html_dom_tree.specs.{Tree.{Head, NodeView, text_node, element_node, NodesView, none, node}, Views.{nodes_of}}
use Rattle.html_dom_shown.proofs.NodeAtoms.{node_atoms, nodes_atoms}
use Rattle.html_dom_shown.specs.Collapsing.{Atom, object, char_atom, text_atoms, preserves, has_border, element_atoms}
use Rattle.html_flow_convert.specs.BareSpaces.{is_border_element, makes_block, is_entered}
use Rattle.html_flow_convert.specs.Converted.{RoleText, is_preformatted, body_level, body_whitespace, body_role, element_head, items_nodes, body_nodes}
use Rattle.html_flow_convert.specs.{Items.{ElemHead, BodyView, absent, present}, Runs.{nodes_with_runs}}
use Rattle.html_flow_convert.specs.declared.convert.{ConversionLevel.TheVariants.{Block, Inline}, Whitespace.TheVariants.{Normal}}
use Rattle.typst_html_spaces.proofs.{AtomContexts.{AtomsStay-append, AtomsStay-bordered}, Each.{Each}}
use Rattle.typst_html_spaces.proofs.{MadeHeads.{listed_fail, name_is_border}, PlainParts.{PlainHead, element_made, plain_border}}
use Rattle.typst_html_spaces.proofs.{ReadyBlocks.{Stay}, ReadyNodes.{head_atoms, border_ready, replaced_ready, entered_ready}}
use Rattle.typst_html_spaces.proofs.Walks.{Ready, protected_stay}
use Rattle.typst_html_spaces.specs.{AtomContexts.{AtomStays, AtomsStay}, PlainFlow.{is_plain_name, is_plain_body}}

-- an element's atoms stay where those inside stay

core_stays : (name : List ℕ) (inner : List Atom) (b a : Bool) → AtomsStay b a inner →
    AtomsStay b a (cond (is_replaced name) (object name ∷ []) inner)
core_stays name inner b a s = elim (cases_Bool (is_replaced name)) [
  | inl e ↦ rw e (tt, tt)
  | inr e ↦ rw e s
]

bordered_stays : (name : List ℕ) (attrs : List TextPair) (inner : List Atom) →
    has_border name attrs ≡ true → AtomsStay false false inner → (b a : Bool) →
    AtomsStay b a (element_atoms name attrs inner)
bordered_stays name attrs inner h s b a = elim (cases_Bool (is_line_break name)) [
  | inl e ↦ rw e (tt, tt)
  | inr e ↦ rw (e, h) (AtomsStay-bordered b a (cond (is_replaced name) (object name ∷ []) inner)
      (core_stays name inner false false s))
]

any_stays : (name : List ℕ) (attrs : List TextPair) (inner : List Atom) →
    ((b a : Bool) → AtomsStay b a inner) → (b a : Bool) →
    AtomsStay b a (element_atoms name attrs inner)
any_stays name attrs inner s b a = elim (cases_Bool (has_border name attrs)) [
  | inl h ↦ bordered_stays name attrs inner h (s false false) b a
  | inr h ↦ elim (cases_Bool (is_line_break name)) [
    | inl e ↦ rw e (tt, tt)
    | inr e ↦ rw (e, h) (core_stays name inner b a (s b a))
  ]
]

-- where blanks are preserved, all atoms stay

kept_char : (b a : Bool) (c : ℕ) → AtomStays b a (char_atom true c)
kept_char b a c = elim (cases_Bool (is_blank c)) [
  | inl e ↦ rw e tt
  | inr e ↦ elim (cases_Bool (is_ignorable c)) [ inl f ↦ rw (e, f) tt | inr f ↦ rw (e, f) tt ]
]

kept_text : (s : List ℕ) (b a : Bool) → AtomsStay b a (text_atoms true s)
kept_text [] b a = tt
kept_text (c ∷ cs) b a = (kept_char b _ c, kept_text cs _ a)

mutual
  kept_node : (n : NodeView) (b a : Bool) → AtomsStay b a (node_atoms true n)
  kept_node (text_node s span) b a = kept_text s b a
  kept_node (element_node h ns) b a =
      any_stays h.name h.attrs (nodes_atoms true ns) (kept_nodes ns) b a
  kept_node n b a = tt

  kept_nodes : (ns : NodesView) (b a : Bool) → AtomsStay b a (nodes_atoms true ns)
  kept_nodes none b a = tt
  kept_nodes (node n ns) b a = AtomsStay-append b a (node_atoms true n) (nodes_atoms true ns)
      (kept_node n b _) (kept_nodes ns _ a)

-- names

pub pre_is_border : shows_border (default_display (codes "pre")) ≡ true
unfolding default_display stands_in
pre_is_border = refl

no_border_no_pre : (name : List ℕ) → shows_border (default_display name) ≡ false →
    bytes_eq name (codes "pre") ≡ false
no_border_no_pre name e = false_from_ne_true _ (λ t. false≢true (sym e
    ∙ (ap (λ n. shows_border (default_display n)) (bytes_eq-same _ _ t) ∙ pre_is_border)))

-- no name of such a list is plain
plain_stands_out : (names : List (List ℕ)) → list_all (λ n. not (is_plain_name n)) names ≡ true →
    (name : List ℕ) → is_plain_name name ≡ true → stands_in names name ≡ false
plain_stands_out names all name p = false_from_ne_true _
    (λ e. both_ways _ (listed_fail is_plain_name names name all e) p)

pub plain_is_not_raw : (name : List ℕ) → is_plain_name name ≡ true → is_raw name ≡ false
unfolding is_raw is_plain_name is_replaced default_display stands_in
plain_is_not_raw = plain_stands_out raw_names refl

pub plain_is_not_escapable : (name : List ℕ) → is_plain_name name ≡ true →
    is_escapable_raw name ≡ false
unfolding is_escapable_raw is_plain_name is_replaced default_display stands_in
plain_is_not_escapable = plain_stands_out escapable_raw_names refl

pub plain_is_not_foreign : (name : List ℕ) → is_plain_name name ≡ true →
    is_foreign_self_closing name ≡ false
unfolding is_foreign_self_closing is_plain_name is_replaced default_display stands_in
plain_is_not_foreign = plain_stands_out foreign_self_closing_names refl

plain_not_raw : (name : List ℕ) → is_plain_name name ≡ true → bytes_eq name (codes "pre") ≡ false →
    is_preformatted name ≡ false
plain_not_raw name p e = rw (e, plain_is_not_raw name p, plain_is_not_escapable name p) refl

collapses_inside : (h : ElemHead) → is_plain_name h.name ≡ true →
    bytes_eq h.name (codes "pre") ≡ false → body_whitespace Normal h ≡ Normal
collapses_inside h p e = rw (plain_not_raw h.name p e) refl

-- bodies

-- the nodes of a body with its runs of blanks kept
abbrev pub body_runs : RoleText → BodyView → List NodeView
body_runs role absent = []
body_runs role (present items) = nodes_with_runs (items_nodes Normal role items)

inline_body : (role : RoleText) (body : BodyView) →
    body_nodes Inline Normal role body ≡ nodes_of (body_runs role body)
unfolding body_nodes
inline_body role absent = refl
inline_body role (present items) = refl

pub block_body_stays : (role : RoleText) (body : BodyView) → Each Ready (body_runs role body) →
    Stay (body_nodes Block Normal role body)
unfolding body_nodes styled_nodes
block_body_stays role absent r = tt
block_body_stays role (present items) r =
    protected_stay (nodes_with_runs (items_nodes Normal role items)) r

-- the kinds of elements

preserves_by_name : (name : List ℕ) (attrs : List TextPair) → first attrs (codes "style") ≡ None →
    preserves name attrs ≡ bytes_eq name (codes "pre")
unfolding preserves
preserves_by_name name attrs e = rw e (or-false (bytes_eq name (codes "pre")))

module _ (role : RoleText) (h : ElemHead) (body : BodyView) (p : PlainHead h)
    (q : is_plain_body (body_whitespace Normal h) body ≡ true)
    (r : is_plain_body Normal body ≡ true → Each Ready (body_runs (body_role role h) body)) where
  -- the element, its attributes with css in them, its children, and their atoms
  abbrev own : Head
  own = element_head role h

  abbrev attrs : List TextPair
  attrs = styled_attrs own.css own.attrs

  abbrev kids : NodesView
  kids = body_nodes (body_level h) (body_whitespace Normal h) (body_role role h) body

  abbrev inside : List Atom
  inside = nodes_atoms (preserves h.name attrs) (styled_nodes kids)

  no_style : first attrs (codes "style") ≡ None
  no_style = rw (p.no_css) (element_made role h p).no_style

  no_block : makes_block own.css ≡ false
  no_block = rw (p.no_css) refl

  own_atoms : (ns : NodesView) → head_atoms own ns
      ≡ element_atoms h.name attrs (nodes_atoms (preserves h.name attrs) (styled_nodes ns))
  unfolding styled_node
  own_atoms ns = refl

  -- the nodes of the body, where white space collapses
  body_ready : body_whitespace Normal h ≡ Normal → Each Ready (body_runs (body_role role h) body)
  body_ready e = r (rw e at q)

  -- an element with lines of its own

  inside_stays : shows_border (default_display h.name) ≡ true → AtomsStay false false inside
  inside_stays e = elim (cases_Bool (preserves h.name attrs)) [
    | inl k ↦ rw k (kept_nodes (styled_nodes kids) false false)
    | inr k ↦
        let pre : bytes_eq h.name (codes "pre") ≡ false =
        sym (preserves_by_name h.name attrs no_style) ∙ k in
        let normal = collapses_inside h p.named pre in
        rw (k, normal, e) (block_body_stays (body_role role h) body (body_ready normal))
  ]

  bordered_ready : shows_border (default_display h.name) ≡ true → Ready (element_node own kids)
  bordered_ready e = border_ready own kids (name_is_border own e) (λ b a. rw (own_atoms kids)
      (bordered_stays h.name attrs inside (plain_border h.name attrs no_style ∙ e)
      (inside_stays e) b a))

  -- a line break

  break_is_border : is_line_break h.name ≡ true → is_border_element own ≡ true
  unfolding is_border_element
  break_is_border e = or_right _ _ (or_left _ _ e)

  line_ready : is_line_break h.name ≡ true → Ready (element_node own kids)
  line_ready e = border_ready own kids (break_is_border e)
      (λ b a. rw (own_atoms kids) (rw e (tt, tt)))

  -- an element in a line

  module _ (e : shows_border (default_display h.name) ≡ false) (f : is_line_break h.name ≡ false) where
    no_border : is_border_element own ≡ false
    unfolding is_border_element
    no_border = rw (no_block, f, e) refl

    core_atoms : (ns : NodesView) → head_atoms own ns ≡ cond (is_replaced h.name) (object h.name ∷ [])
        (nodes_atoms (preserves h.name attrs) (styled_nodes ns))
    core_atoms ns = own_atoms ns ∙ rw (f, plain_border h.name attrs no_style ∙ e) refl

    object_ready : is_replaced h.name ≡ true → Ready (element_node own kids)
    object_ready g = replaced_ready own kids no_border g (core_atoms kids ∙ rw g refl)

    is_open : is_replaced h.name ≡ false → is_entered own ≡ true
    unfolding is_entered
    is_open g = rw (no_border, g) refl

    open_atoms : is_replaced h.name ≡ false → (ns : NodesView) →
        head_atoms own ns ≡ nodes_atoms false (styled_nodes ns)
    open_atoms g ns =
        let flows : preserves h.name attrs ≡ false =
        preserves_by_name h.name attrs no_style ∙ no_border_no_pre h.name e in
        core_atoms ns ∙ rw (g, flows) refl

    is_inline_level : body_level h ≡ Inline
    is_inline_level = rw (e, p.no_css) refl

    open_ready : is_replaced h.name ≡ false → Ready (element_node own kids)
    open_ready g =
        let normal = collapses_inside h p.named (no_border_no_pre h.name e) in
        rw (is_inline_level, normal, inline_body (body_role role h) body)
        (entered_ready own (body_runs (body_role role h) body) (is_open g) (open_atoms g)
        (body_ready normal))

  pub element_ready : Ready (element_node own kids)
  element_ready = elim (cases_Bool (shows_border (default_display h.name))) [
    | inl e ↦ bordered_ready e
    | inr e ↦ elim (cases_Bool (is_line_break h.name)) [
      | inl f ↦ line_ready f
      | inr f ↦ elim (cases_Bool (is_replaced h.name)) [
        | inl g ↦ object_ready e f g
        | inr g ↦ open_ready e f g
      ]
    ]
  ]
