use Rattle.std.{proofs.Common.{◌≡◌, ◌∷◌, ap, arith, length}, proofs.lemmas.Result.{err_from_is_err_and}, specs.Vec.Iter.{into_iter_items}}
use Rattle.html_flow_convert.proofs.Items.{nodes_added, none_passed, first_left}
use Rattle.html_flow_convert.proofs.convert.+convert.Goals as goal

pub convert_list-returns-in_err-push_item : goal.convert_list-returns-in_err-push_item
convert_list-returns-in_err-push_item t c =
    let at = c.loop-pair in
    let setting = c.args.setting in
    let own = c.with_role in
    let failed = err_from_is_err_and c.from_residual-in_err-push_item.result
    c.from_residual-in_err-push_item.ensures.1 in
    record {
      made = rw failed.1 tt;
      clean = rw failed.1 tt;
      fault = rw (failed.1, failed.2) (first_left (into_iter_items at.pair-iterator)
          (into_iter_items c.next.new.self) c.in-Some.pair c.in-Some.ensures.steps.0 setting.depth
          setting.limit _ _ _ own.ensures.depth own.ensures.limit at.invariant.clean _
          c.in_err-push_item.ensures.fault);
    }

pub convert_list-loop-pair-preserved : goal.convert_list-loop-pair-preserved
convert_list-loop-pair-preserved t c =
    let at = c.loop-pair in
    let items = into_iter_items at.pair-iterator in
    let later = into_iter_items c.next.new.self in
    let steps : items ≡ c.in-Some.pair ∷ later = c.in-Some.ensures.steps.0 in
    let gone = c.in-Some.ensures.steps.1 in
    let short = ap length steps in
    let long = at.invariant.long in
    record {
      agrees = nodes_added items later c.in-Some.pair steps _ _ _ _ _ _ _ c.with_role.ensures.whitespace
          c.with_role.ensures.role at.invariant.agrees c.in_ok-push_item.ensures.appended;
      clean = none_passed items later c.in-Some.pair steps _ _ _ _ _ c.with_role.ensures.depth
          c.with_role.ensures.limit at.invariant.clean c.in_ok-push_item.ensures.clean;
      long = omega (arith, gone, short, long);
    }
