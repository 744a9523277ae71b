use Rattle.std.proofs.Common.{◌≡◌, ◌-◌}
use Rattle.html_page_stack.specs.{PageViews.{page_of, while_test}, Pages.{closed_while}}
use Rattle.html_page_stack.proofs.page.Page.close_while.Given as goal

abbrev pub invariant-loop-count : goal.invariant-loop-count
invariant-loop-count l =
    closed_while (while_test l.goes_on) (l.most - l.count) (page_of l.self)
    ≡ closed_while (while_test l.goes_on) l.most (page_of l.fn.self)
