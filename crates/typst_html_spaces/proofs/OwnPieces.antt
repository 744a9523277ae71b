-- What is seen of nodes whose atoms all stay. Neither runs of blanks nor protected spaces change it.
use Rattle.std.proofs.Common.{◌≡◌, ℕ, Bool, true, false, ◌||◌, cond, List, [], ◌∷◌, ◌++◌, map, inl, inr, refl, ap, ◌∙◌, sym, append_assoc, append-nil}
use Rattle.std.proofs.{lemmas.Bool.{cases_Bool}, lemmas.List.{map-append}}
use Rattle.html_names_core.specs.{Characters.{is_blank, is_ignorable}, Displays.{default_display}, Kinds.{is_replaced, is_line_break}}
use Rattle.html_names_core.specs.Names.{stands_in}
use Rattle.html_dom_tree.specs.Styled.{styled_attrs, styled_node, styled_nodes}
use Rattle.html_dom_tree.specs.{Tree.{Head, NodeView, text_node, element_node, NodesView, none, node, TextPair}, Views.{nodes_of}}
use Rattle.html_dom_shown.proofs.NodeAtoms.{node_atoms, nodes_atoms}
use Rattle.html_dom_shown.specs.Collapsing.{Atom, visible, ignorable, collapsible, kept, border, object, Piece, char, thing, line, edge, char_atom, text_atoms, preserves, has_border, bordered_atoms, element_atoms}
use Rattle.html_flow_convert.specs.Nodes.{pre_wrap_head}
use Rattle.typst_html_spaces.{proofs.Changed.{IsWrap, wrapped, wraps}, specs.AtomContexts.{own_piece, own_pieces}}
use Rattle.typst_html_spaces.specs.Changed.{Changed, at_end, at_tag, after_tag, at_text, around_text, at_element, at_frame}
use Rattle.typst_html_spaces.specs.ItemText.{between_edges}

abbrev pub edged : Bool → List Piece → List Piece
edged b ps = cond b (between_edges ps) ps

-- an element by what is seen of its children
abbrev pub inner_pieces : List ℕ → List Piece → List Piece
inner_pieces name inside = cond (is_replaced name) (thing name ∷ []) inside

abbrev pub head_pieces : List ℕ → List TextPair → List Piece → List Piece
head_pieces name attrs inside =
    cond (is_line_break name) (line ∷ []) (edged (has_border name attrs) (inner_pieces name inside))

abbrev mutual
  pub node_pieces : NodeView → List Piece
  node_pieces (text_node s span) = map char s
  node_pieces (element_node h ns) =
      head_pieces h.name (styled_attrs h.css h.attrs) (nodes_pieces ns)
  node_pieces n = []

  pub nodes_pieces : NodesView → List Piece
  nodes_pieces none = []
  nodes_pieces (node n ns) = node_pieces n ++ nodes_pieces ns

abbrev pub list_pieces : List NodeView → List Piece
list_pieces ns = nodes_pieces (nodes_of ns)

-- they are the atoms, each by itself

char_own : (k : Bool) (c : ℕ) → own_piece (char_atom k c) ≡ char c
char_own k c =
    elim (cases_Bool (is_blank c)) [
      | inl e ↦ rw e (kept_or_not k)
      | inr e ↦ rw e (shown_or_not (is_ignorable c))
    ]
  where
    kept_or_not : (b : Bool) → own_piece (cond b (kept c) (collapsible c)) ≡ char c
    kept_or_not true = refl
    kept_or_not false = refl

    shown_or_not : (b : Bool) → own_piece (cond b (ignorable c) (visible c)) ≡ char c
    shown_or_not true = refl
    shown_or_not false = refl

text_own : (k : Bool) (s : List ℕ) → own_pieces (text_atoms k s) ≡ map char s
text_own k [] = refl
text_own k (c ∷ cs) =
    rw (char_own k c, text_own k cs) refl

edged_own : (b : Bool) (xs : List Atom) → own_pieces (bordered_atoms b xs) ≡ edged b (own_pieces xs)
edged_own true xs = ap (λ ps. edge ∷ ps) (map-append own_piece xs (border ∷ []))
edged_own false xs = refl

inner_own : (name : List ℕ) (xs : List Atom) →
    own_pieces (cond (is_replaced name) (object name ∷ []) xs) ≡ inner_pieces name (own_pieces xs)
inner_own name xs =
    elim (cases_Bool (is_replaced name)) [ inl e ↦ rw e refl | inr e ↦ rw e refl ]

head_own : (name : List ℕ) (attrs : List TextPair) (xs : List Atom) →
    own_pieces (element_atoms name attrs xs) ≡ head_pieces name attrs (own_pieces xs)
head_own name attrs xs =
    elim (cases_Bool (is_line_break name)) [
      | inl e ↦ rw e refl
      | inr e ↦
          let inside : List Atom = cond (is_replaced name) (object name ∷ []) xs in
          rw e (edged_own (has_border name attrs) inside
          ∙ ap (edged (has_border name attrs)) (inner_own name xs))
    ]

mutual
  unfolding styled_node

  pub node_own : (k : Bool) (n : NodeView) →
      own_pieces (node_atoms k (styled_node n)) ≡ node_pieces n
  node_own k (text_node s span) = text_own k s
  node_own k (element_node h ns) =
      let attrs : List TextPair = styled_attrs h.css h.attrs in
      head_own h.name attrs (nodes_atoms (k || preserves h.name attrs) (styled_nodes ns))
      ∙ ap (head_pieces h.name attrs) (nodes_own (k || preserves h.name attrs) ns)
  node_own k n = refl

  pub nodes_own : (k : Bool) (ns : NodesView) →
      own_pieces (nodes_atoms k (styled_nodes ns)) ≡ nodes_pieces ns
  nodes_own k none = refl
  nodes_own k (node n ns) =
      map-append own_piece (node_atoms k (styled_node n)) (nodes_atoms k (styled_nodes ns))
      ∙ rw (node_own k n, nodes_own k ns) refl

-- lists of nodes

pub list_pieces-append : (xs ys : List NodeView) →
    list_pieces (xs ++ ys) ≡ list_pieces xs ++ list_pieces ys
list_pieces-append [] ys = refl
list_pieces-append (x ∷ xs) ys =
    ap (λ ps. node_pieces x ++ ps) (list_pieces-append xs ys)
    ∙ sym (append_assoc (node_pieces x) (list_pieces xs) (list_pieces ys))

-- a `span` that keeps its white space
pub pre_wrap_pieces : (span : ℕ) (ns : NodesView) →
    node_pieces (element_node (pre_wrap_head span) ns) ≡ nodes_pieces ns
unfolding default_display stands_in is_replaced has_border
pre_wrap_pieces span ns = refl

-- spaces in spans of their own

wrapped_pieces : {h : Head} {s : List ℕ} (span : ℕ) → IsWrap h s →
    node_pieces (element_node h (node (text_node s span) none)) ≡ map char s
wrapped_pieces span (wrapped {s = s} own e) =
    pre_wrap_pieces own (node (text_node s span) none) ∙ append-nil (map char s)

pub wraps_pieces : {ns ms : NodesView} → Changed wraps ns ms → nodes_pieces ms ≡ nodes_pieces ns
wraps_pieces at_end = refl
wraps_pieces (at_tag d) = wraps_pieces d
wraps_pieces (after_tag i d) = absurd i
wraps_pieces (at_text {s = s} d) = ap (λ ps. map char s ++ ps) (wraps_pieces d)
wraps_pieces (around_text {s = s} {span = span} i d) = rw (wrapped_pieces span i, wraps_pieces d) refl
wraps_pieces (at_element e d f) = rw (e, wraps_pieces d, wraps_pieces f) refl
wraps_pieces (at_frame d) = wraps_pieces d
