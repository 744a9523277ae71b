use Rattle.std.proofs.Common.{◌≡◌, drop, map, take}
use Rattle.html_page_stack.specs.PageViews.{element_of, stack_of}
use Rattle.html_page_stack.proofs.stack.Stack.take_inside.Given as goal

abbrev pub invariant-loop-taken : goal.invariant-loop-taken
invariant-loop-taken l = record {
  inside : map element_of l.inside.items ≡ take l.taken (stack_of l.fn.self);
  left : stack_of l.self ≡ drop l.taken (stack_of l.fn.self);
}
