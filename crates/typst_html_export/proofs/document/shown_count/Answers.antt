use Rattle.std.proofs.Common.{◌∙◌, sym, arith}
use Rattle.typst_html_export.proofs.Counted.{tag_passed, other_counted, all_counted}
use Rattle.typst_html_export.proofs.document.shown_count.Goals.{then-not-is_tag, else-not-is_tag}
use Rattle.typst_html_export.proofs.document.shown_count.Goals as goal

pub loop-node-preserved : goal.loop-node-preserved
loop-node-preserved c =
    let passed = tag_passed c.args.nodes.now c.loop-node.node-index c.node-item.result
    c.loop-node-test.true c.node-item.is in
    let counted = other_counted c.args.nodes.now c.loop-node.node-index c.node-item.result
    c.loop-node-test.true c.node-item.is in
    elim c.if-not-is_tag.branch [
      | then-not-is_tag w ↦ let more = counted (sym c.is_tag.ensures ∙ w.if-not-is_tag.true) in
          record {
            counted = omega (arith, w.count-is, more, c.loop-node.invariant.counted);
            below = omega (arith, w.count-is, c.loop-node.invariant.below);
          }
      | else-not-is_tag w ↦ let same = passed (sym c.is_tag.ensures ∙ w.if-not-is_tag.false) in
          record {
            counted = omega (arith, w.count-is, same, c.loop-node.invariant.counted);
            below = omega (arith, w.count-is, c.loop-node.invariant.below);
          }
    ]

pub returns : goal.returns
returns c =
    omega (
      arith,
      all_counted c.args.nodes.now c.loop-node.node-index c.loop-node-test.false,
      c.loop-node.invariant.counted,
    )
