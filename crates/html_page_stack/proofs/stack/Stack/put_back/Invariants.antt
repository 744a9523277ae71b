use Rattle.std.proofs.Common.{◌≡◌, ◌++◌, map, vec_len}
use Rattle.html_page_stack.specs.PageViews.{element_of, stack_of}
use Rattle.html_page_stack.proofs.stack.Stack.put_back.Given as goal

abbrev pub invariant-loop-element : goal.invariant-loop-element
invariant-loop-element l = map element_of l.left.items ++ stack_of l.self
    ≡ map element_of l.fn.inside.items ++ stack_of l.fn.self

abbrev pub decreases-loop-element : goal.decreases-loop-element
decreases-loop-element l = vec_len l.left
