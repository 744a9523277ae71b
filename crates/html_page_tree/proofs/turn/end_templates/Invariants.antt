use Rattle.std.proofs.Common.{◌≡◌, ◌-◌}
use Rattle.html_page_tree.specs.PageTrees.{templates_ended}
use Rattle.html_page_stack.specs.PageViews.{page_of}
use Rattle.html_page_tree.proofs.turn.end_templates.Given as goal

abbrev pub invariant-loop-count : goal.invariant-loop-count
invariant-loop-count l =
    templates_ended (l.most - l.count) (page_of l.page) ≡ templates_ended l.most (page_of l.fn.page)
