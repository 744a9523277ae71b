use Rattle.std.proofs.Common.{◌≡◌, ℕ, ◌||◌, drop}
use Rattle.html_dom_document.specs.{Introspectors.{has_location}, Places.{is_among}, Records.{locations_view}}
use Rattle.html_dom_document.proofs.tables.location_set.Given as goal

abbrev pub invariant-loop-location : goal.invariant-loop-location
invariant-loop-location l = (k : ℕ) →
    (has_location l.locations k || is_among (locations_view (drop l.location-index l.list)) k)
    ≡ is_among (locations_view l.list) k
