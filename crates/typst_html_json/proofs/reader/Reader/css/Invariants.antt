use Rattle.std.{proofs.Common.{◌≡◌}, specs.Vec.Iter.{into_iter_items}}
use Rattle.serde_json.specs.View.{view, items_view}
use Rattle.typst_html_json.specs.SpelledItems.{css_at, with_css}
use Rattle.typst_html_json.proofs.reader.Reader.css.Given as goal

abbrev pub invariant-loop-value : goal.invariant-loop-value
invariant-loop-value l =
    with_css l.css (items_view (into_iter_items l.value-iterator)) ≡ css_at (view l.fn.value)
