-- A block: a lone element stands for it with a border of its own, and other nodes get a `div`.
use Rattle.std.proofs.Common.{◌≡◌, ℕ, Bool, false, cond, List, [], ◌∷◌, map, Some, inl, inr, refl, ap, ◌∙◌, append-nil}
use Rattle.std.proofs.lemmas.Bool.{cases_Bool, true≢false}
use Rattle.html_names_core.specs.{Displays.{default_display}, Kinds.{is_replaced, is_line_break}, Names.{stands_in}}
use Rattle.html_dom_tree.specs.{Styled.{styled_attrs}, Tree.{Head, NodeView, tag_node, text_node, element_node, frame_node, NodesView}}
use Rattle.html_dom_shown.specs.Collapsing.{Piece, has_border}
use Rattle.html_flow_convert.specs.LoneNode.{DisplayChangeView, node_with_display, css_with_display, node_list, lone_node, block_change, block_head, block_nodes}
use Rattle.typst_html_spaces.proofs.Edges.{same-equal, same-edged}
use Rattle.typst_html_spaces.proofs.LoneBreaks.{other, one_break, nodes_content, list_content, holds_one_break, lone_content, all_displayed_content}
use Rattle.typst_html_spaces.proofs.{LoneNode.{of_tags, of_lone, of_block}, MadeHeads.{StandsForBlock, stands_for_block}}
use Rattle.typst_html_spaces.proofs.{MadeNodes.{made, AreMade}, OwnPieces.{edged, inner_pieces, node_pieces, nodes_pieces, list_pieces}}
use Rattle.typst_html_spaces.specs.{AtomContexts.{SameButEdges}, DeepNodes.{HoldsOf}, ItemText.{between_edges}}

-- what is seen of a list with a lone node is that node

abbrev IsSeenAs : DisplayChangeView → NodeView → NodesView → Type 0
IsSeenAs change n ns =
    (list_pieces (map (node_with_display change) (node_list ns))
    ≡ node_pieces (node_with_display change n)) × (nodes_pieces ns ≡ node_pieces n)

-- of tags nothing is seen
abbrev AreUnseen : DisplayChangeView → NodesView → Type 0
AreUnseen change ns =
    (list_pieces (map (node_with_display change) (node_list ns)) ≡ []) × (nodes_pieces ns ≡ [])

lone_seen : (change : DisplayChangeView) (ns : NodesView) (n : NodeView) → lone_node ns ≡ Some n →
    IsSeenAs change n ns
unfolding node_list
lone_seen change ns n = of_lone (IsSeenAs change n) (λ t ms seen. seen) n (λ ms tags.
    let unseen = of_tags (AreUnseen change) (λ t us seen. seen) (refl, refl) ms tags in (
      rw (unseen.0, append-nil (node_pieces (node_with_display change n))) refl,
      rw (unseen.1, append-nil (node_pieces n)) refl,
    )) ns

-- a block: what it is seen as, and what it holds
pub record IsBlock (made : List NodeView) (body : List Piece) : Type 0 where
  pub same : SameButEdges (list_pieces made) (between_edges body)
  pub content : list_content made ≡ other

in_div : (span : ℕ) (ns : NodesView) →
    IsBlock (element_node (block_head span) ns ∷ []) (nodes_pieces ns)
unfolding default_display stands_in is_replaced has_border
in_div span ns = record {
  same = same-equal (append-nil (between_edges (nodes_pieces ns)));
  content = refl;
}

no_break : (h : Head) (kids ns : NodesView) → lone_node ns ≡ Some (element_node h kids) →
    holds_one_break (nodes_content ns) ≡ false → is_line_break h.name ≡ false
no_break h kids ns e f =
    elim (cases_Bool (is_line_break h.name)) [
      | inl t ↦ absurd (true≢false (rw (lone_content ns (element_node h kids) e, t) at f))
      | inr t ↦ t
    ]

displayed_block : (h : Head) (kids ns : NodesView) (change : DisplayChangeView) →
    lone_node ns ≡ Some (element_node h kids) → StandsForBlock h (css_with_display change h.css) →
    holds_one_break (nodes_content ns) ≡ false →
    IsBlock (map (node_with_display change) (node_list ns)) (nodes_pieces ns)
displayed_block h kids ns change e s f =
    let new : List NodeView = map (node_with_display change) (node_list ns) in
    let seen : IsSeenAs change (element_node h kids) ns =
    lone_seen change ns (element_node h kids) e in
    let core : List Piece = inner_pieces h.name (nodes_pieces kids) in
    let b : Bool = has_border h.name (styled_attrs h.css h.attrs) in
    let u : is_line_break h.name ≡ false = no_break h kids ns e f in
    let after : list_pieces new ≡ between_edges core =
    seen.0 ∙ rw (u, s.borders) refl in
    let before : nodes_pieces ns ≡ edged b core = seen.1 ∙ rw u refl in
    record {
      same = rw (after, before) (same-edged b core);
      content = all_displayed_content change ns
          ∙ (lone_content ns (element_node h kids) e ∙ ap (λ x. cond x one_break other) u);
    }

lone_is_made : (ns : NodesView) (n : NodeView) → lone_node ns ≡ Some n → AreMade ns →
    HoldsOf made false n
lone_is_made ns n = of_lone (λ ms. AreMade ms → HoldsOf made false n) (λ t ms one m. one m.1) n
    (λ ms tags m. m.0) ns

lone_block : (ns : NodesView) (n : NodeView) (change : DisplayChangeView) → lone_node ns ≡ Some n →
    block_change n ≡ Some change → HoldsOf made false n →
    holds_one_break (nodes_content ns) ≡ false →
    IsBlock (map (node_with_display change) (node_list ns)) (nodes_pieces ns)
lone_block ns (tag_node t) change e c m f = cc
lone_block ns (text_node s span) change e c m f = cc
lone_block ns (element_node h kids) change e c m f =
    displayed_block h kids ns change e (stands_for_block h kids change m.0 c) f
lone_block ns (frame_node b) change e c m f = absurd m

pub block_pieces : (span : ℕ) (ns : NodesView) → AreMade ns →
    holds_one_break (nodes_content ns) ≡ false → IsBlock (block_nodes span ns) (nodes_pieces ns)
block_pieces span ns m f = of_block (λ new. IsBlock new (nodes_pieces ns)) span ns (in_div span ns)
    (λ n change e c. lone_block ns n change e c (lone_is_made ns n e m) f)
