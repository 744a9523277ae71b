use Rattle.std.proofs.Common.{◌≡◌}
use Rattle.html_dom_tree.specs.Views.{nodes_view}
use Rattle.html_dom_walk.specs.Walks.{events_left, visits_left}
use Rattle.html_page_text.proofs.PastEvents.{past_events}
use Rattle.html_page_text.specs.{PageViews.{progress_view}, Progress.{progress_past}}
use Rattle.html_page_text.proofs.walk.pass_nodes.Given as goal

abbrev pub invariant-loop-walk : goal.invariant-loop-walk
invariant-loop-walk l =
    past_events (progress_view l.progress) (events_left l.walk)
    ≡ progress_past (progress_view l.fn.progress) (nodes_view l.nodes)

abbrev pub decreases-loop-walk : goal.decreases-loop-walk
decreases-loop-walk l = visits_left l.walk
