use Rattle.std.proofs.Common.{sym, ◌∙◌}
use Rattle.html_page_stack.proofs.Milestones.{reached_around}
use Rattle.html_page_stack.specs.{ElementViews.{list_of}, PageViews.{bound_test, goal_test}}
use Rattle.html_page_stack.proofs.elements.reaches.Goals as goal

pub returns-in-Some : goal.returns-in-Some
returns-in-Some c =
    let fs = c.in-Some.rest.now in
    let e = c.in-Some.element.now in
    let past = reached_around c.loop-element.outer.now fs e (goal_test c.args.goal)
    (bound_test c.args.bound) c.in-Some-milestone.milestone c.in-Some.ensures.cases.0 c.loop-element.invariant.known
    (sym c.is.ensures ∙ c.if-is.false) (sym c.is-in-Some.ensures ∙ c.if-is-2.false)
    c.in-Some-milestone.is in
    c.in-Some-reaches.ensures (list_of fs) past.0 ∙ (sym past.1 ∙ c.loop-element.invariant.same)
