use Rattle.std.proofs.{Common.{◌≡◌, ◌<◌, false, true, get_or, length, sym, ap, ◌∙◌, arith}, lemmas.Bool.{and_from}}
use Rattle.std.proofs.lemmas.List.Folds.{list_all_more}
use Rattle.typst_html_read.{proofs.Stretches.{plain_bytes, plain_cut, split_at}, specs.Stretches.{is_plain}}
use Rattle.typst_html_read.proofs.stretch.split_plain.Goals as goal
use Rattle.typst_html_read.proofs.stretch.split_plain.Goals.{then-loop-at-test+else-is_plain, else-loop-at-test}

pub loop-at-preserved : goal.loop-at-preserved
loop-at-preserved c =
    let text = c.args.text.now in
    let end = c.args.end in
    let at = c.loop-at.at in
    let same : c.as_bytes-bytes.result.now ≡ text = c.as_bytes-bytes.ensures.value in
    let within : at < length text = omega (arith, ap length same, c.loop-at-test.true) in
    let plain : is_plain end (get_or text at 0) ≡ true =
    ap (λ bs. is_plain end (get_or bs at 0)) (sym same)
    ∙ (sym c.is_plain.ensures ∙ c.if-is_plain.true) in
    record {
      within = omega arith;
      plain = list_all_more (is_plain end) text at 0 within
          ∙ and_from _ _ c.loop-at.invariant.plain plain;
    }

pub split_at-requires : goal.split_at-requires
split_at-requires c =
    let text = c.args.text.now in
    let end = c.args.end in
    let at = c.loop-at.at in
    let same : c.as_bytes-bytes.result.now ≡ text = c.as_bytes-bytes.ensures.value in
    let stops : at < length text → is_plain end (get_or text at 0) ≡ false = λ l.
    elim c.loop-at-test.branch [
      | then-loop-at-test+else-is_plain w ↦
          ap (λ bs. is_plain end (get_or bs at 0)) (sym same)
          ∙ (sym w.is_plain.ensures ∙ w.if-is_plain.false)
      | else-loop-at-test w ↦ absurd (omega (arith, ap length same, w.loop-at-test.false))
    ] in
    plain_cut end text at c.requires c.loop-at.invariant.within stops

pub returns : goal.returns
returns c =
    let text = c.args.text.now in
    let end = c.args.end in
    let at = c.loop-at.at in
    let same : c.as_bytes-bytes.result.now ≡ text = c.as_bytes-bytes.ensures.value in
    let stops : at < length text → is_plain end (get_or text at 0) ≡ false = λ l.
    elim c.loop-at-test.branch [
      | then-loop-at-test+else-is_plain w ↦
          ap (λ bs. is_plain end (get_or bs at 0)) (sym same)
          ∙ (sym w.is_plain.ensures ∙ w.if-is_plain.false)
      | else-loop-at-test w ↦ absurd (omega (arith, ap length same, w.loop-at-test.false))
    ] in
    split_at (is_plain end) text at (plain_bytes end c.requires) c.utf8.text
    (plain_cut end text at c.requires c.loop-at.invariant.within stops) c.loop-at.invariant.plain
    _ _ c.split_at.ensures.front c.split_at.ensures.back
