use Rattle.std.proofs.Common.{◌≡◌, ◌++◌, drop}
use Rattle.html_dom_tree.specs.FrameViews.{frame_items_view}
use Rattle.html_dom_document.specs.{DomWalks.{path_view}, Places.{items_places, items_links}, Records.{places_view, locations_view}}
use Rattle.html_dom_document.proofs.recorder.Recorder.+add_frame.Given as goal

abbrev pub invariant-add_frame-loop-point : goal.invariant-add_frame-loop-point
invariant-add_frame-loop-point l =
    let at = path_view l.at in
    let left = frame_items_view (drop l.point-index l.point-items) in
    let all = frame_items_view l.point-items in
    record {
      found : places_view l.self.places.items ++ items_places at left
          ≡ places_view l.initial.self.places.items ++ items_places at all;
      linked : locations_view l.self.links.items ++ items_links left
          ≡ locations_view l.initial.self.links.items ++ items_links all;
    }
