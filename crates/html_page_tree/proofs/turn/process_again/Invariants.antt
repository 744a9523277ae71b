use Rattle.std.proofs.Common.{◌≡◌, ◌-◌}
use Rattle.html_page_tree.specs.PageTrees.{processed}
use Rattle.html_page_stack.specs.PageViews.{page_of, token_of}
use Rattle.html_page_tree.proofs.turn.process_again.Given as goal

abbrev pub invariant-loop-count : goal.invariant-loop-count
invariant-loop-count l =
    processed (l.most - l.count) (token_of l.token) (page_of l.page)
    ≡ processed l.most (token_of l.fn.token) (page_of l.fn.page)
