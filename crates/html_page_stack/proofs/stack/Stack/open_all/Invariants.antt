use Rattle.std.proofs.Common.{◌≡◌, drop, map}
use Rattle.html_page_stack.specs.{Adoption.{all_made}, PageViews.{format_of, stack_of}}
use Rattle.html_page_stack.proofs.stack.Stack.open_all.Given as goal

abbrev pub invariant-loop-format : goal.invariant-loop-format
invariant-loop-format l =
    all_made (map format_of (drop l.format-index l.kept)) (stack_of l.self)
    ≡ all_made (map format_of l.kept) (stack_of l.fn.self)
