-- Footnotes that are refused.
use Rattle.std.proofs.Common.{◌≡◌, ◌==◌, ℕ, List, [], ◌∷◌, length, false, true≢false, sym, ap}
use Rattle.typst_html_encode.specs.FaultViews.{footnotes}
use Rattle.html_flow_convert.specs.{Views.{items_view}, declared.item.Pair.{Pair}}
use Rattle.typst_html_export.specs.Assembled.{item_spans, note_faults}

pub refused : (notes : List Pair) (spans : List ℕ) → false ≡ (length notes == 0)
    → spans ≡ item_spans (items_view notes)
    → note_faults (item_spans (items_view notes)) ≡ footnotes spans ∷ []
refused [] spans some e = absurd (true≢false (sym some))
refused (note ∷ notes) spans some e = ap (λ s. footnotes s ∷ []) (sym e)
