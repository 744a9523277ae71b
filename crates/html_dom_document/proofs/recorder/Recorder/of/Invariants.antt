use Rattle.std.proofs.Common.{◌≡◌, ◌++◌}
use Rattle.html_dom_tree.specs.Views.{nodes_view}
use Rattle.html_dom_walk.specs.Walks.{events_left, visits_left}
use Rattle.html_dom_document.proofs.DomWalks.{links_along, places_along}
use Rattle.html_dom_document.specs.{DomWalks.{siblings_view}, Places.{document_places, nodes_links}, Records.{locations_view, places_view}}
use Rattle.html_dom_document.proofs.recorder.Recorder.of.Given as goal

abbrev pub invariant-loop-walk : goal.invariant-loop-walk
invariant-loop-walk l =
    let left = events_left l.walk in
    record {
      found : places_view l.recorder.places.items ++ places_along (siblings_view l.siblings) left
          ≡ document_places (nodes_view l.nodes);
      linked : locations_view l.recorder.links.items ++ links_along left
          ≡ nodes_links (nodes_view l.nodes);
    }

abbrev pub decreases-loop-walk : goal.decreases-loop-walk
decreases-loop-walk l = visits_left l.walk
