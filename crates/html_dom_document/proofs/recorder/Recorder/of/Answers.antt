use Rattle.std.proofs.Common.{◌++◌, ap, sym, ◌∙◌, append_assoc}
use Rattle.html_dom_tree.specs.Views.{nodes_view}
use Rattle.html_dom_walk.specs.Walks.{event_of, events_left}
use Rattle.html_dom_document.proofs.DomWalks.{links_along, links_along_is, places_along, places_along_is}
use Rattle.html_dom_document.specs.{DomWalks.{event_links, event_places, first_siblings, siblings_past, siblings_view}, Records.{locations_view, places_view}}
use Rattle.html_dom_document.proofs.recorder.Recorder.of.Goals as goal

pub loop-walk-init : goal.loop-walk-init
loop-walk-init c =
    let events = events_left c.over-walk.result in
    let nodes = nodes_view c.args.nodes.now in
    record {
      found = ap (λ ps. places_view ps ++ places_along (siblings_view c.of-siblings.result) events)
          c.new.ensures.items
          ∙ (ap (λ s. places_along s events) c.of-siblings.ensures
          ∙ (ap (places_along (first_siblings nodes)) c.over-walk.ensures.events
          ∙ places_along_is nodes));
      linked = ap (λ ls. locations_view ls ++ links_along events) c.new-2.ensures.items
          ∙ (ap links_along c.over-walk.ensures.events ∙ links_along_is nodes);
    }

pub loop-walk-preserved : goal.loop-walk-preserved
loop-walk-preserved c =
    let so_far = c.loop-walk.invariant in
    let s = siblings_view c.loop-walk.siblings in
    let places = places_view c.loop-walk.recorder.places.items in
    let links = locations_view c.loop-walk.recorder.links.items in
    let later = events_left c.next.new.self in
    let e = event_of c.in-Some.visit in
    let comes = sym (rw c.in-Some.is at c.in_ok-visit.ensures.comes) in
    record {
      found = ap (λ l. l ++ places_along (siblings_view c.add_visited.new.siblings) later)
          c.in_ok-add_visited.ensures.recorded.found
          ∙ (ap (λ t. (places ++ event_places s e) ++ places_along t later)
          c.in_ok-add_visited.ensures.passed
          ∙ (append_assoc places (event_places s e) (places_along (siblings_past s e) later)
          ∙ (ap (λ es. places ++ places_along s es) comes ∙ so_far.found)));
      linked = ap (λ l. l ++ links_along later) c.in_ok-add_visited.ensures.recorded.linked
          ∙ (append_assoc links (event_links e) (links_along later)
          ∙ (ap (λ es. links ++ links_along es) comes ∙ so_far.linked));
    }
