use Rattle.std.proofs.Common.{◌≡◌, ◌++◌}
use Rattle.html_dom_tree.specs.Views.{element_view}
use Rattle.html_dom_walk.specs.{Gathered.{gathered}, Walks.{events_left, visits_left}}
use Rattle.html_links.proofs.FoundNames.{event_names}
use Rattle.html_links.specs.{Distinct.{names_view}, TreeNames.{all_ids, element_names, frame_names}}
use Rattle.html_links.proofs.names_in_tree.listed_names.Given as goal

abbrev pub invariant-loop-walk : goal.invariant-loop-walk
invariant-loop-walk l =
    names_view l.names.items ++ gathered (λ e. event_names (λ h. all_ids h.attrs) frame_names e.1)
    (events_left l.walk) ≡ element_names (element_view l.element)

abbrev pub decreases-loop-walk : goal.decreases-loop-walk
decreases-loop-walk l = visits_left l.walk
