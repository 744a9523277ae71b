use Rattle.std.proofs.Common.{◌≡◌, drop}
use Rattle.html_names_core.specs.Texts.{text_view}
use Rattle.html_anchors.specs.{AnchorWalk.{put_each}, LocationMaps.{names_in, locations_in}}
use Rattle.html_anchors.proofs.location_maps.put_each.Given as goal

abbrev pub invariant-loop-location : goal.invariant-loop-location
invariant-loop-location l =
    put_each (text_view l.name) (locations_in (drop l.location-index l.locations))
    (names_in l.answers)
    ≡ put_each (text_view l.name) (locations_in l.locations) (names_in l.fn.answers)
