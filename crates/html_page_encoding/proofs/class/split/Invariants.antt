use Rattle.std.proofs.Common.{◌≡◌, ℕ, ◌<◌, true, get_or}
use Rattle.html_page_encoding.specs.Classes.{has}
use Rattle.html_page_encoding.proofs.class.split.Given as goal

abbrev pub invariant-loop-at : goal.invariant-loop-at
invariant-loop-at l = (k : ℕ) → k < l.at → has l.class (get_or l.bytes k 0) ≡ true
