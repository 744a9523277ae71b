use Rattle.std.proofs.Common.{◌≡◌, ℕ, ◌||◌, drop}
use Rattle.html_dom_document.specs.{Introspectors.{has_location}, Places.{is_destination}, Records.{places_view}}
use Rattle.html_dom_document.proofs.tables.destinations.Given as goal

abbrev pub invariant-loop-place : goal.invariant-loop-place
invariant-loop-place l = (k : ℕ) →
    (has_location l.locations k || is_destination (places_view (drop l.place-index l.places)) k)
    ≡ is_destination (places_view l.places) k
