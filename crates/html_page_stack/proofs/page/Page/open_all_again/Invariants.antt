use Rattle.std.proofs.Common.{◌≡◌, map, reverse, vec_len}
use Rattle.html_page_stack.specs.{PageViews.{format_of, page_of}, Pages.{all_opened_again}}
use Rattle.html_page_stack.proofs.page.Page.open_all_again.Given as goal

abbrev pub invariant-loop-format : goal.invariant-loop-format
invariant-loop-format l =
    all_opened_again (reverse (map format_of l.left.items)) (page_of l.self)
    ≡ all_opened_again (reverse (map format_of l.fn.closed.items)) (page_of l.fn.self)

abbrev pub decreases-loop-format : goal.decreases-loop-format
decreases-loop-format l = vec_len l.left
