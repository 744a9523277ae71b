use Rattle.std.proofs.Common.{◌≡◌, ◌++◌, drop}
use Rattle.typst_html_encode.specs.FaultViews.{spans_view}
use Rattle.html_flow_convert.specs.Views.{items_view}
use Rattle.typst_html_export.specs.Assembled.{item_spans}
use Rattle.typst_html_export.proofs.document.item_spans.Given as goal

abbrev pub invariant-loop-pair : goal.invariant-loop-pair
invariant-loop-pair l =
    spans_view l.spans.items ++ item_spans (items_view (drop l.pair-index l.items))
    ≡ item_spans (items_view l.items)
