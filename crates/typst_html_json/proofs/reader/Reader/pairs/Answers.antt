use Rattle.std.proofs.Common.{◌≡◌, length, map, refl, sym, ap, ◌∙◌, rules, arith}
use Rattle.std.proofs.lemmas.{List.{nil_from_length}, Result.{err_from_is_err_and}}
use Rattle.std.specs.Vec.Iter.{into_iter_items, into_iter_len}
use Rattle.serde_json.{proofs.Views.{view-Array}, specs.View.{view, items_view}}
use Rattle.html_dom_tree.specs.Views.{pair_view}
use Rattle.typst_html_json.proofs.{PairRows.{pairs_row, joined-pairs}, Rows.{none_read, one_read, all_read, wrong_one}}
use Rattle.typst_html_json.specs.{Fields.{pairs_at, pairs_of}, Reading.{mark, marked}}
use Rattle.typst_html_json.proofs.reader.Reader.pairs.Goals as goal

pub loop-value-init : goal.loop-value-init
loop-value-init c =
    let left = into_iter_items c.into_iter-value-iterator.result in
    let is : marked (mark c.args.self.now) (pairs_at (view c.args.value))
    ≡ marked (mark c.args.self.now) (pairs_of (items_view left)) =
    rw (
      c.in-Array.is,
      view-Array,
      c.into_iter-value-iterator.ensures.into_iter_gives.0,
    ) refl in
    let long : into_iter_len c.into_iter-value-iterator.result ≡ length left = search rules in
    record {
      read = none_read (pairs_row c.args.span.0) pair_view _ left _ c.args.self.now is
          c.in_ok-pairs.ensures.items;
      long = long;
    }

pub returns-in_err-pair : goal.returns-in_err-pair
returns-in_err-pair c =
    let failed = err_from_is_err_and c.from_residual-in_err-pair.result
    c.from_residual-in_err-pair.ensures.1 in
    rw (failed.1, failed.2)
    (wrong_one (pairs_row c.args.span.0) pair_view _ _ (into_iter_items c.next.new.self)
    c.in-Some.value c.loop-value.pairs.items c.args.self.now c.loop-value.self
    c.in_err-pair.field-0.0 c.loop-value.invariant.read c.in-Some.ensures.steps.0
    c.in_err-pair.ensures)

pub loop-value-preserved : goal.loop-value-preserved
loop-value-preserved c = record {
  read =
      rw c.in_ok-push.ensures.items
      (one_read (pairs_row c.args.span.0) pair_view _ _ (into_iter_items c.next.new.self)
      c.in-Some.value c.loop-value.pairs.items c.in_ok-pair.field-0 c.args.self.now
      c.loop-value.self c.pair.new.self c.loop-value.invariant.read c.in-Some.ensures.steps.0
      c.in_ok-pair.ensures);
  long = omega (arith, ap length c.in-Some.ensures.steps.0, c.loop-value.invariant.long, c.in-Some.ensures.steps.1);
}

pub returns : goal.returns
returns c =
    let held = c.loop-value.invariant in
    let none_left = nil_from_length (into_iter_items c.loop-value.value-iterator)
    (sym held.long ∙ c.in-None.ensures.steps.0) in
    rw (← joined-pairs (map pair_view c.loop-value.pairs.items))
    (all_read (pairs_row c.args.span.0) pair_view _ _ c.loop-value.pairs.items c.args.self.now
    c.loop-value.self held.read none_left)
