use Rattle.std.proofs.Common.{◌≡◌, length}
use Rattle.html_page_stack.specs.{OpenElements.{root_alone}, PageViews.{stack_of}}
use Rattle.html_page_stack.proofs.stack.Stack.keep_root.Given as goal

abbrev pub invariant-loop-self : goal.invariant-loop-self
invariant-loop-self l = root_alone (stack_of l.self) ≡ root_alone (stack_of l.fn.self)

abbrev pub decreases-loop-self : goal.decreases-loop-self
decreases-loop-self l = length (stack_of l.self)
