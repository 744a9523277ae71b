use Rattle.std.proofs.Common.{◌≡◌, ◌-◌}
use Rattle.html_page_stack.specs.{OpenElements.{closed_times}, PageViews.{stack_of}}
use Rattle.html_page_stack.proofs.stack.Stack.close_times.Given as goal

abbrev pub invariant-loop-count : goal.invariant-loop-count
invariant-loop-count l = closed_times (l.times - l.count) (stack_of l.self)
    ≡ closed_times l.times (stack_of l.fn.self)
