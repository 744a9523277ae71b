-- The walk goes past the nodes of a block.
use Rattle.std.proofs.{Common.{◌≡◌, ℕ, Bool, true, false, cond, List, [], ◌∷◌, map, Some, inl, inr, refl, ap}, lemmas.Bool.{cases_Bool}}
use Rattle.html_names_core.specs.{Displays.{default_display}, Kinds.{is_replaced, is_line_break}, Names.{stands_in}}
use Rattle.html_dom_tree.specs.Styled.{styled_attrs, styled_node, styled_nodes}
use Rattle.html_dom_tree.specs.Tree.{TagView, TextPair, Head, NodeView, tag_node, text_node, element_node, frame_node, NodesView, node}
use Rattle.html_dom_shown.{proofs.NodeAtoms.{nodes_atoms}, specs.Collapsing.{Atom, object, preserves, has_border, bordered_atoms}}
use Rattle.html_flow_convert.specs.BareSpaces.{is_border_element}
use Rattle.html_flow_convert.specs.LoneNode.{node_list, are_tags, lone_node, DisplayChangeView, css_with_display, node_with_display, block_change, block_head, block_nodes}
use Rattle.typst_html_spaces.proofs.{AtomContexts.{AtomsStay-front, AtomsStay-bordered, AtomsStay-inside}, Each.{Each}}
use Rattle.typst_html_spaces.proofs.{LoneNode.{of_tags, of_lone, of_block}, MadeHeads.{StandsForBlock, stands_for_block}}
use Rattle.typst_html_spaces.proofs.{MadeNodes.{AreMade}, ReadyNodes.{head_atoms, tag_ready, border_ready}, Walks.{Ready}}
use Rattle.typst_html_spaces.specs.AtomContexts.{AtomsStay, support_at}

-- a lone element that stands for its block

inside_border : (b : Bool) (xs : List Atom) → AtomsStay false false (bordered_atoms b xs) →
    AtomsStay false false xs
inside_border true xs s = AtomsStay-inside false false xs s
inside_border false xs s = s

standing_stays : (h : Head) (css : List TextPair) (kids : NodesView) → StandsForBlock h css →
    AtomsStay false false (head_atoms h kids) →
    (b a : Bool) → AtomsStay b a (head_atoms (record h { css = css }) kids)
unfolding styled_node
standing_stays h css kids new s b a =
    let attrs = styled_attrs h.css h.attrs in
    let inside = nodes_atoms (preserves h.name attrs) (styled_nodes kids) in
    let core = cond (is_replaced h.name) (object h.name ∷ []) inside in
    elim (cases_Bool (is_line_break h.name)) [
      | inl e ↦ rw e (tt, tt)
      | inr e ↦
          let f : AtomsStay false false (bordered_atoms (has_border h.name attrs) core) = rw e at s in
          rw (e, new.borders, new.preserved) (AtomsStay-bordered b a core
          (inside_border (has_border h.name attrs) core f))
    ]

tags_atoms : (ns : NodesView) → are_tags ns ≡ true → nodes_atoms false (styled_nodes ns) ≡ []
unfolding styled_node
tags_atoms = of_tags (λ ns. nodes_atoms false (styled_nodes ns) ≡ []) (λ t ns e. e) refl

-- the atoms of a list stay between borders
abbrev pub Stay : NodesView → Type 0
Stay ns = AtomsStay false false (nodes_atoms false (styled_nodes ns))

first_stays : (h : Head) (kids ns : NodesView) → are_tags ns ≡ true →
    Stay (node (element_node h kids) ns) → AtomsStay false false (head_atoms h kids)
unfolding styled_node
first_stays h kids ns e s =
    rw (ap (λ xs. support_at xs false) (tags_atoms ns e))
    at (AtomsStay-front false false (head_atoms h kids) (nodes_atoms false (styled_nodes ns)) s)

abbrev Changed : DisplayChangeView → NodesView → Type 0
Changed change ns = AreMade ns → Stay ns → Each Ready (map (node_with_display change) (node_list ns))

past_tag : (change : DisplayChangeView) (t : TagView) (ns : NodesView) → Changed change ns →
    Changed change (node (tag_node t) ns)
unfolding node_list styled_node
past_tag change t ns more r s = (tag_ready t, more r.1 s)

lone_ready : (n : NodeView) (change : DisplayChangeView) → block_change n ≡ Some change →
    (ns : NodesView) → are_tags ns ≡ true → AreMade (node n ns) → Stay (node n ns) →
    Ready (node_with_display change n)
lone_ready (tag_node t) change c ns e r s = tag_ready t
lone_ready (text_node x span) change c ns e r s = cc
lone_ready (element_node h kids) change c ns e r s =
    let new = stands_for_block h kids change r.0.0 c in
    border_ready (record h { css = css_with_display change h.css }) kids new.is_one
    (standing_stays h (css_with_display change h.css) kids new (first_stays h kids ns e s))
lone_ready (frame_node f) change c ns e r s = absurd r.0

changed_ready : (ns : NodesView) (n : NodeView) (change : DisplayChangeView) →
    lone_node ns ≡ Some n → block_change n ≡ Some change → Changed change ns
unfolding node_list styled_node
changed_ready ns n change e c = of_lone (Changed change) (past_tag change) n (λ ms tags r s. (
  lone_ready n change c ms tags r s,
  of_tags (λ us. Each Ready (map (node_with_display change) (node_list us)))
      (λ t us more. (tag_ready t, more)) tt ms tags,
)) ns e

-- a block of its own

div_border : (span : ℕ) → is_border_element (block_head span) ≡ true
unfolding is_border_element default_display stands_in
div_border span = refl

div_atoms : (span : ℕ) (ns : NodesView) →
    head_atoms (block_head span) ns ≡ bordered_atoms true (nodes_atoms false (styled_nodes ns))
unfolding styled_node preserves has_border default_display stands_in is_replaced
div_atoms span ns = refl

div_ready : (span : ℕ) (ns : NodesView) → Stay ns → Ready (element_node (block_head span) ns)
div_ready span ns s = border_ready (block_head span) ns (div_border span)
    (λ b a. rw (div_atoms span ns) (AtomsStay-bordered b a (nodes_atoms false (styled_nodes ns)) s))

pub block_ready : (span : ℕ) (ns : NodesView) → AreMade ns → Stay ns →
    Each Ready (block_nodes span ns)
block_ready span ns r s = of_block (Each Ready) span ns (div_ready span ns s, tt)
    (λ n change e f. changed_ready ns n change e f r s)
