use Rattle.std.proofs.Common.{[]}
use Rattle.html_dom_tree.specs.Views.{nodes_view}
use Rattle.html_dom_walk.specs.Walks.{events_left, visits_left}
use Rattle.html_page_nesting.{proofs.Passing.{Finds}, specs.{Passing.{opened_view}, Walks.{nodes_walk}}}
use Rattle.html_page_nesting.proofs.walk.pass_nodes.Given as goal

abbrev pub invariant-loop-walk : goal.invariant-loop-walk
invariant-loop-walk g l =
    let made = g.S.MisnestedSink.made_with in
    Finds (made l.fn.reports.sink) (made l.reports.sink) (opened_view l.opened)
    (events_left l.walk) (nodes_walk [] 0 l.fn.around (nodes_view l.nodes))

abbrev pub decreases-loop-walk : goal.decreases-loop-walk
decreases-loop-walk g l = visits_left l.walk
