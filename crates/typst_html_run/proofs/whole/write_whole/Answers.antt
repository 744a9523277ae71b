use Rattle.std.proofs.{Common.{arith}, KnownBytes.{Appends-trans}, Math.Seq.{take-add}, lemmas.List.{take_rest}}
use Rattle.typst_html_run.proofs.whole.write_whole.Goals as goal

pub loop-at-preserved : goal.loop-at-preserved
loop-at-preserved g c =
    let written = rw (take_rest c.args.bytes.now c.loop-at.at) at c.in_ok-at.ensures.taken.1 in
    record {
      within = omega (arith, c.in_ok-at.ensures.count.1);
      written =
          rw (take-add c.loop-at.at c.in_ok-at.field-0 c.args.bytes.now)
          (Appends-trans _ _ _ _ _ c.loop-at.invariant.written written);
    }
