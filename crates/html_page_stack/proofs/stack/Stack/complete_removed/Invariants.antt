use Rattle.std.proofs.Common.{◌≡◌, ◌-◌}
use Rattle.html_page_stack.specs.{OpenElements.{uncovered_times}, PageViews.{stack_of}}
use Rattle.html_page_stack.proofs.stack.Stack.complete_removed.Given as goal

abbrev pub invariant-loop-count : goal.invariant-loop-count
invariant-loop-count l = uncovered_times (l.most - l.count) (stack_of l.self)
    ≡ uncovered_times l.most (stack_of l.fn.self)
