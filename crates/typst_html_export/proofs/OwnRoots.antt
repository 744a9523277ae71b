-- Neither nodes for its head nor information stand around a root of a document's own.
use Rattle.std.proofs.Common.{◌≡◌, ℕ, List, [], ◌∷◌, codes, true, true≢false, refl, sym, ap, ◌∙◌, append-nil}
use Rattle.html_dom_tree.specs.{Tree.{NodeView, NodesView}, Views.{nodes_of}}
use Rattle.html_dom_document.specs.Documents.{InfoView, document_root, new_document, no_info}
use Rattle.typst_html_export.specs.Assembled.{Outline, own_html, output_by, document_nodes, document_outline, styled_output}
use Rattle.typst_html_export.specs.{DocumentHead.{made_node, charset_node, viewport_node, entry_nodes}, Linked.{document_with_anchors}}
use Rattle.typst_html_export.specs.OwnRoots.{is_root, InformationStandsAlone, OwnRootsHaveNoInfo, OwnRootsHaveNoNodes}

pub information_stands_alone : InformationStandsAlone
information_stands_alone info =
    ap (λ entries. made_node (codes "head") []
    (nodes_of (charset_node ∷ viewport_node ∷ entries))) (append-nil (entry_nodes info))

has_place : (o : Outline) → is_root o ≡ true → (place : ℕ) × (o ≡ own_html place)
has_place (own_html place) own = (place, refl)
has_place o own = absurd (true≢false (sym own))

own_output : (o : Outline) (info : InfoView) (head : List NodeView) (content notes : NodesView) →
    is_root o ≡ true → output_by o info head content notes ≡ output_by o no_info [] content notes
own_output o info head content notes own = rw (has_place o own).1 refl

pub own_roots_have_no_nodes : OwnRootsHaveNoNodes
own_roots_have_no_nodes info head items notes own =
    let content = document_nodes items in
    let others = document_nodes notes in
    let outline = document_outline content in
    ap (λ o. document_with_anchors (new_document (styled_output o) info))
    (own_output outline info head content others own
    ∙ sym (own_output outline info [] content others own))

pub own_roots_have_no_info : OwnRootsHaveNoInfo
own_roots_have_no_info info items notes own =
    let content = document_nodes items in
    ap (λ o. document_root (document_with_anchors (new_document (styled_output o) no_info)))
    (own_output (document_outline content) info [] content (document_nodes notes) own)
