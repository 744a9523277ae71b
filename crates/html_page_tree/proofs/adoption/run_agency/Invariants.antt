use Rattle.std.proofs.Common.{◌≡◌, ◌-◌}
use Rattle.html_page_stack.specs.PageViews.{page_of}
use Rattle.html_page_tree.specs.PageBodies.{agency_run}
use Rattle.html_page_tree.proofs.adoption.run_agency.Given as goal

abbrev pub invariant-loop-turn : goal.invariant-loop-turn
invariant-loop-turn l = agency_run (8 - l.turn) l.name.tag (page_of l.page)
    ≡ agency_run 8 l.name.tag (page_of l.fn.page)
