-- The parts of an assembled document are those of the whole.
use Rattle.std.proofs.Common.{◌≡◌, ℕ, List, [], refl, ap, ◌∙◌, append-nil}
use Rattle.html_dom_tree.specs.{Styled.{styled_nodes}, Tree.{NodeView, NodesView}}
use Rattle.html_dom_document.specs.Documents.{InfoView}
use Rattle.html_flow_convert.specs.{Depth.{items_too_deep}, Items.{ItemsView, no_items, item}}
use Rattle.typst_html_export.proofs.{Firsts.{none_after_none}, Outlines.{own_found, own_stands}, StyledRoots.{lone_styled}}
use Rattle.typst_html_export.specs.Assembled.{Outline, own_html, document_outline, assembled_output, output_by, first_own, shown_count, styled_output, item_spans, note_faults, outline_faults, depth_faults, assembly_faults}
use Rattle.typst_html_export.specs.Roots.{styled_root}

no_notes : (limit : ℕ) (notes : ItemsView) → note_faults (item_spans notes) ≡ []
    → depth_faults (items_too_deep 1 limit notes) ≡ []
unfolding items_too_deep
no_notes limit no_items e = refl
no_notes limit (item i role notes) e = cc

module _ (limit : ℕ) (content : NodesView) (notes : ItemsView) where
  pub no_notes_clean :
      outline_faults (document_outline content) notes ≡ note_faults (item_spans notes)
      → note_faults (item_spans notes) ≡ [] → assembly_faults limit content notes ≡ []
  no_notes_clean own clean = none_after_none _ _ (own ∙ clean) (no_notes limit notes clean)

-- without footnotes the faults are those of what the document has of its own
pub alone_faults : (limit : ℕ) (content : NodesView)
    → assembly_faults limit content no_items ≡ outline_faults (document_outline content) no_items
unfolding items_too_deep
alone_faults limit content = append-nil (outline_faults (document_outline content) no_items)

styled_by : (o : Outline) (info : InfoView) (head : List NodeView) (content notes : NodesView) →
    o ≡ document_outline content → styled_root (output_by o info head content notes)
    ≡ styled_output (output_by o info head content notes)
unfolding styled_nodes
styled_by (own_html place) info head content notes e =
    let found = own_found (shown_count content) (first_own content) place e in
    ap (λ ns. record { nodes = ns; root = place })
    (lone_styled content place found.1.1 (own_stands content place e))
styled_by o info head content notes e = refl

pub assembled_styled : (info : InfoView) (head : List NodeView) (content notes : NodesView)
    → styled_root (assembled_output info head content notes)
    ≡ styled_output (assembled_output info head content notes)
assembled_styled info head content notes =
    styled_by (document_outline content) info head content notes refl
