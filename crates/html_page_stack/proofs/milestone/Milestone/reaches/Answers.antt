use Rattle.std.proofs.Common.{sym, subst}
use Rattle.html_page_stack.proofs.Milestones.{foreign_only}
use Rattle.html_page_stack.specs.{Milestones.{IsOnlyNamed}, PageViews.{goal_test}}
use Rattle.html_page_stack.proofs.milestone.Milestone.reaches.Goals as goal

pub returns-in-Foreign : goal.returns-in-Foreign
returns-in-Foreign c = λ os known.
    let name = c.in-Foreign.tag.now in
    c.reaches_any-in-Foreign.ensures os (goal_test c.args.goal) known
    (subst (λ g. IsOnlyNamed (goal_test g) name) (sym c.in-Foreign.is) (foreign_only name))
