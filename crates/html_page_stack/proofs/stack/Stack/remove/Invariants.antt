use Rattle.std.proofs.Common.{◌≡◌, ◌++◌, length, map}
use Rattle.html_page_stack.specs.{OpenElements.{removed}, PageViews.{element_of, goal_test, stack_of}}
use Rattle.html_page_stack.proofs.stack.Stack.remove.Given as goal

abbrev pub invariant-loop-element : goal.invariant-loop-element
invariant-loop-element l =
    map element_of l.inside.items ++ removed (goal_test l.goal) (stack_of l.self)
    ≡ removed (goal_test l.goal) (stack_of l.fn.self)

abbrev pub decreases-loop-element : goal.decreases-loop-element
decreases-loop-element l = length (stack_of l.self)
