use Rattle.html_links.proofs.FirstBases.{base_behind, base_here, no_base_left}
use Rattle.html_links.proofs.bases.+bases.Goals as goal

pub base_among-returns-in-Some : goal.base_among-returns-in-Some
base_among-returns-in-Some t c =
    base_here c.args.nodes.now c.loop-child.child-index c.child-item.result _ _ c.loop-child-test.true
    c.child-item.is c.loop-child.invariant (rw c.in-Some.is at c.base_at.ensures)

pub base_among-loop-child-preserved : goal.base_among-loop-child-preserved
base_among-loop-child-preserved t c =
    base_behind c.args.nodes.now c.loop-child.child-index c.child-item.result _ c.loop-child-test.true
    c.child-item.is c.loop-child.invariant (rw c.in_default.is at c.base_at.ensures)

pub base_among-returns : goal.base_among-returns
base_among-returns t c =
    no_base_left c.args.nodes.now c.loop-child.child-index _ c.loop-child-test.false
    c.loop-child.invariant
