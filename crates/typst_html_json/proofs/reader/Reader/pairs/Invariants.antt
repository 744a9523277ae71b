use Rattle.std.{proofs.Common.{◌≡◌, length}, specs.Vec.Iter.{into_iter_items, into_iter_len}}
use Rattle.serde_json.specs.View.{view}
use Rattle.html_dom_tree.specs.Views.{pair_view}
use Rattle.typst_html_json.{proofs.PairRows.{pairs_row}, proofs.Rows.{IsPartRead}, specs.Fields.{pairs_at}, specs.Reading.{mark, marked}}
use Rattle.typst_html_json.proofs.reader.Reader.pairs.Given as goal

abbrev pub invariant-loop-value : goal.invariant-loop-value
invariant-loop-value l =
    let left = into_iter_items l.value-iterator in
    record {
      read : IsPartRead (pairs_row l.fn.span.0) pair_view
          (marked (mark l.fn.self) (pairs_at (view l.fn.value))) left l.pairs.items l.fn.self l.self;
      long : into_iter_len l.value-iterator ≡ length left;
    }
