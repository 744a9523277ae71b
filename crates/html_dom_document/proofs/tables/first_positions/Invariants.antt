use Rattle.std.{proofs.Common.{◌≡◌, ℕ}, specs.Vec.Iter.{into_iter_items}}
use Rattle.html_dom_tree.specs.Attributes.{or_else}
use Rattle.html_dom_document.specs.{Introspectors.{position_in}, Places.{first_position}, Records.{places_view}}
use Rattle.html_dom_document.proofs.tables.first_positions.Given as goal

abbrev pub invariant-loop-place : goal.invariant-loop-place
invariant-loop-place l = (k : ℕ) →
    or_else (position_in l.positions k)
    (first_position (places_view (into_iter_items l.place-iterator)) k)
    ≡ first_position (places_view l.fn.places.items) k
