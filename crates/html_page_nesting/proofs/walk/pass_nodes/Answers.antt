use Rattle.std.proofs.Common.{true, false, refl, sym, ◌∙◌}
use Rattle.html_dom_tree.specs.Views.{nodes_view}
use Rattle.html_dom_walk.specs.Walks.{event_of, path_of}
use Rattle.html_page_nesting.proofs.Passing.{finds_all, finds_more, finds_nodes}
use Rattle.html_page_nesting.proofs.walk.pass_nodes.Goals as goal

pub loop-walk-init : goal.loop-walk-init
loop-walk-init g c = finds_nodes (nodes_view c.args.nodes.now) c.over-walk.ensures.events

pub loop-walk-preserved-then-branch : goal.loop-walk-preserved-then-branch
loop-walk-preserved-then-branch g c =
    let walk = c.next.new.self in
    let passed = c.in_ok-pass.ensures in
    finds_more (path_of walk) (event_of c.in-Some.visit) true c.loop-walk.invariant
    (rw c.in-Some.is at c.in_ok-visit.ensures.comes) (rw c.path.ensures at passed.taken) passed.past
    (sym c.if-branch.true ∙ passed.skips) c.skip.ensures.left

pub loop-walk-preserved : goal.loop-walk-preserved
loop-walk-preserved g c =
    let walk = c.next.new.self in
    let passed = c.in_ok-pass.ensures in
    finds_more (path_of walk) (event_of c.in-Some.visit) false c.loop-walk.invariant
    (rw c.in-Some.is at c.in_ok-visit.ensures.comes) (rw c.path.ensures at passed.taken) passed.past
    (sym c.if-branch.false ∙ passed.skips) refl

pub returns : goal.returns
returns g c = finds_all (rw c.in_default.is at c.in_ok-visit.ensures.comes).0 c.loop-walk.invariant
