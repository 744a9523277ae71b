use Rattle.std.proofs.Common.{sym}
use Rattle.typst_html_export.proofs.Outlines.{passed, found, none_left}
use Rattle.typst_html_export.proofs.document.first_own.Goals as goal

pub returns-in-Some : goal.returns-in-Some
returns-in-Some c =
    found c.args.nodes.now c.loop-place.place c.index-nodes-place.result c.loop-place-test.true
    c.index-nodes-place.is _ c.in-Some.ensures c.loop-place.invariant

pub loop-place-preserved : goal.loop-place-preserved
loop-place-preserved c =
    passed c.args.nodes.now c.loop-place.place c.index-nodes-place.result c.loop-place-test.true
    c.index-nodes-place.is (sym c.in_default.ensures) c.loop-place.invariant

pub returns : goal.returns
returns c = sym (none_left c.args.nodes.now c.loop-place.place c.loop-place-test.false
    c.loop-place.invariant)
