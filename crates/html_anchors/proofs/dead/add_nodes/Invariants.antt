use Rattle.std.{proofs.Common.{◌≡◌, ◌++◌, []}, specs.Prelude.{option_map}}
use Rattle.html_dom_tree.specs.Views.{nodes_view}
use Rattle.html_dom_walk.specs.Walks.{events_left, visits_left}
use Rattle.html_anchors.proofs.DeadLinks.{dead_links_along}
use Rattle.html_anchors.specs.{DeadLinks.{dead_links_view}, LinkTargets.{live_hrefs_view}, Links.{nodes_dead_links}}
use Rattle.html_anchors.proofs.dead.add_nodes.Given as goal

abbrev pub invariant-loop-walk : goal.invariant-loop-walk
invariant-loop-walk l =
    let hrefs = live_hrefs_view l.found in
    dead_links_view l.dead.items
    ++ dead_links_along hrefs (option_map (λ d. d.0) l.dest) (events_left l.walk)
    ≡ dead_links_view l.fn.dead.items ++ nodes_dead_links hrefs [] (nodes_view l.nodes)

abbrev pub decreases-loop-walk : goal.decreases-loop-walk
decreases-loop-walk l = visits_left l.walk
