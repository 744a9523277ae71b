use Rattle.std.proofs.Common.{◌≡◌, ◌+◌, ◌<◌, true, get_or, arith, ap, sym, ◌∙◌, length}
use Rattle.std.proofs.lemmas.{Grind.{common_steps}, Str.{IsCharBoundary-start}}
use Rattle.html_flow_convert.{proofs.Passing.{passes_none, shown_passed, space_passed}, specs.TextStretches.{is_above_space}}
use Rattle.html_flow_convert.proofs.pieces.past_words.Goals as goal

pub loop-at-init : goal.loop-at-init
loop-at-init c = record {
  cut = IsCharBoundary-start c.args.text.now c.utf8.text;
  passed = passes_none c.args.ends_normal.now c.args.text.now;
}

pub loop-at-preserved-then-is_above_space : goal.loop-at-preserved-then-is_above_space
loop-at-preserved-then-is_above_space c =
    let text = c.args.text.now in
    let at = c.loop-at in
    let same : c.as_bytes-bytes.result.now ≡ text = c.as_bytes-bytes.ensures.value in
    let within : at.at < length text = omega (arith, ap length same, c.loop-at-test.true) in
    let shown : is_above_space (get_or text at.at 0) ≡ true =
    rw same at (sym c.is_above_space.ensures ∙ c.if-is_above_space.true) in
    let held = at.invariant in
    let step = shown_passed text at.at c.utf8.text held.passed held.cut within shown in
    record { cut = step.0; passed = step.1 }

pub loop-at-preserved : goal.loop-at-preserved
loop-at-preserved c =
    let text = c.args.text.now in
    let at = c.loop-at in
    let same : c.as_bytes-bytes.result.now ≡ text = c.as_bytes-bytes.ensures.value in
    let found = c.is_space_between.ensures in
    let is = c.if-is_space_between.true in
    let space : get_or text at.at 0 ≡ 32 = rw same at (found.space is) in
    let room : at.at + 1 < length text = omega (arith, ap length same, found.room is) in
    let after : is_above_space (get_or text (at.at + 1) 0) ≡ true =
    rw same at (found.after is) in
    let step = space_passed text at.at c.utf8.text (rw c.if-ends.true at at.invariant.passed)
    at.invariant.cut space room after in
    record { cut = step.0; passed = rw c.if-ends.true step.1 }

pub returns-clause-passed : goal.returns-clause-passed
returns-clause-passed c = rw c.range_from.ensures.value c.loop-at.invariant.passed

pub returns-clause-shorter : goal.returns-clause-shorter
returns-clause-shorter c = grind (arith, common_steps, ap length c.range_from.ensures.value)
