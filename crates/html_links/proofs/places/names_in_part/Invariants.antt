use Rattle.std.proofs.Common.{◌≡◌}
use Rattle.html_names_core.specs.Names.{stands_in}
use Rattle.html_dom_tree.specs.Views.{element_view}
use Rattle.html_dom_walk.specs.{Passing.{past}, Walks.{events_left, visits_left}}
use Rattle.html_links.proofs.PutPlaces.{leaves_out, with_event}
use Rattle.html_links.specs.{InDocument.{element_part}, Indicated.{element_places}, UsedNames.{used_in}}
use Rattle.html_links.proofs.places.names_in_part.Given as goal

abbrev pub invariant-loop-walk : goal.invariant-loop-walk
invariant-loop-walk l =
    past with_event (leaves_out l.is_whole) 0 (used_in l.names) (events_left l.walk)
    ≡ stands_in (element_places (element_part l.is_whole (element_view l.root)))

abbrev pub decreases-loop-walk : goal.decreases-loop-walk
decreases-loop-walk l = visits_left l.walk
