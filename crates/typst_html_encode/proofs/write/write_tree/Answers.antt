use Rattle.std.proofs.lemmas.Result.{err_from_is_err_and}
use Rattle.typst_html_encode.proofs.Turns.{starts, refused, passes, enters, leaves, finished, size_after, size_inside}
use Rattle.typst_html_encode.proofs.write.write_tree.Goals as goal

pub loop-node-init : goal.loop-node-init
loop-node-init g c = record {
  stands = starts c.of-left.ensures c.new-open_elements.ensures;
  at_place = c.in_ok-place.ensures;
}

pub returns-in_err-turn-clause-writes : goal.returns-in_err-turn-clause-writes
returns-in_err-turn-clause-writes g c =
    let held = c.loop-node.invariant in
    let first = refused held.stands c.in-Some.ensures c.in_err-turn.field-0.0 held.at_place
    c.in_err-turn.ensures.writes.fault in
    let failed = err_from_is_err_and c.from_residual-in_err-turn.result
    c.from_residual-in_err-turn.ensures.1 in
    record {
      appended = rw failed.1 tt;
      clean = rw failed.1 tt;
      fault = rw (failed.1, failed.2) first;
    }

pub loop-node-smaller-in-Some-entered : goal.loop-node-smaller-in-Some-entered
loop-node-smaller-in-Some-entered g c =
    let entered = rw c.in-Some-entered.is at c.in_ok-turn.ensures.writes.returned.entered in
    size_inside c.in-Some.ensures entered.0 c.new-open.ensures c.in_ok-push.ensures

pub loop-node-preserved-in-Some-entered : goal.loop-node-preserved-in-Some-entered
loop-node-preserved-in-Some-entered g c =
    let held = c.loop-node.invariant in
    let turn = c.in_ok-turn.ensures in
    let entered = rw c.in-Some-entered.is at turn.writes.returned.entered in
    record {
      stands = enters held.stands c.in-Some.ensures held.at_place (record {
        agrees = turn.writes.appended;
        clean = turn.writes.clean;
        named = turn.named;
      }) entered
          turn.writes.returned.due_after c.new-open.ensures c.in_ok-push.ensures;
      at_place = c.in_ok-place-2.ensures;
    }

pub loop-node-smaller-in_default-entered : goal.loop-node-smaller-in_default-entered
loop-node-smaller-in_default-entered g c = size_after _ c.in-Some.ensures

pub loop-node-preserved-in_default-entered : goal.loop-node-preserved-in_default-entered
loop-node-preserved-in_default-entered g c =
    let held = c.loop-node.invariant in
    let turn = c.in_ok-turn.ensures in
    let skipped = rw c.in_default-entered.is at turn.writes.returned.entered in
    record {
      stands = passes held.stands c.in-Some.ensures held.at_place (record {
        agrees = turn.writes.appended;
        clean = turn.writes.clean;
        named = turn.named;
      }) skipped
          turn.writes.returned.due_after;
      at_place = held.at_place;
    }

pub loop-node-preserved : goal.loop-node-preserved
loop-node-preserved g c = record {
  stands = leaves c.loop-node.invariant.stands c.in_default.ensures c.in-Some-pop.ensures.some
      c.in_ok-write_close.ensures;
  at_place = c.in_ok-place-3.ensures;
}

pub returns-in_default-pop-clause-writes : goal.returns-in_default-pop-clause-writes
returns-in_default-pop-clause-writes g c =
    let done = finished c.loop-node.invariant.stands c.in_default.ensures
    c.in_default-pop.ensures.none in
    record { appended = done.0; clean = done.1; fault = tt }

pub returns-in_default-pop-clause-named : goal.returns-in_default-pop-clause-named
returns-in_default-pop-clause-named g c =
    (finished c.loop-node.invariant.stands c.in_default.ensures c.in_default-pop.ensures.none).2
