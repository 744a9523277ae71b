-- What is recorded of a tree, and the effect of a call that records.
use Rattle.std.specs.{Prelude.{◌≡◌, ℕ, List, ◌++◌, map, option_map, Result, OnOk}, declared.alloc.AllocError.{AllocError}}
use Rattle.html_dom_tree.specs.declared.introspection.Location.{Location}
use Rattle.html_dom_document.specs.{Introspectors.{position_view}, Places.{PlacedTagView}, declared.placed_tag.PlacedTag.{PlacedTag}}
use Rattle.html_dom_document.specs.declared.recorder.Recorder.{Recorder}

abbrev pub place_view : PlacedTag → PlacedTagView
place_view p = record {
  location = p.location.0;
  dest = option_map (λ l. l.0) p.dest;
  position = position_view p.position;
}

abbrev pub places_view : List PlacedTag → List PlacedTagView
places_view = map place_view

abbrev pub location_view : Location → ℕ
location_view l = l.0

abbrev pub locations_view : List Location → List ℕ
locations_view = map location_view

-- these places and links are added
pub record Records
    (r : Result (Unit {0}) AllocError) (old new : Recorder)
    (places : List PlacedTagView) (links : List ℕ) : Type 0 where
  pub found : OnOk r (places_view new.places.items ≡ places_view old.places.items ++ places)
  pub linked : OnOk r (locations_view new.links.items ≡ locations_view old.links.items ++ links)
