use Rattle.std.proofs.Common.{◌≡◌, ℕ, ◌<◌, ◌≤◌, false, [], bytes_eq, get_or, length}
use Rattle.html_names_core.specs.Names.{texts}
use Rattle.html_names_core.proofs.lookup.place_in.Given as goal

abbrev pub invariant-loop-place : goal.invariant-loop-place
invariant-loop-place l =
    (l.place-end ≤ length l.table)
    × ((k : ℕ) → l.initial.place ≤ k → k < l.place →
    bytes_eq (get_or (texts l.table) k []) l.text ≡ false)
