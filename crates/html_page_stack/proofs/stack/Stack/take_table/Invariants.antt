use Rattle.std.proofs.Common.{◌≡◌, ◌++◌, length, map}
use Rattle.html_page_stack.specs.{OpenElements.{OpenElement, before_table}, PageViews.{element_of, stack_of}}
use Rattle.html_page_stack.proofs.stack.Stack.take_table.Given as goal

abbrev pub invariant-loop-self : goal.invariant-loop-self
invariant-loop-self l = (add : OpenElement → OpenElement) → before_table add (stack_of l.fn.self)
    ≡ map element_of l.inside.items ++ before_table add (stack_of l.self)

abbrev pub decreases-loop-self : goal.decreases-loop-self
decreases-loop-self l = length (stack_of l.self)
