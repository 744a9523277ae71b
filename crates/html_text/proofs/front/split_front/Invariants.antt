use Rattle.std.proofs.Common.{◌-◌, ◌≤◌, length}
use Rattle.html_text.{proofs.Fronts.{Had}, specs.Fronts.{has_byte}}
use Rattle.html_text.proofs.front.split_front.Given as goal

abbrev pub invariant-loop-at : goal.invariant-loop-at
invariant-loop-at l =
    record {
      within : l.at ≤ length l.bytes;
      had : Had (has_byte l.table l.bit) l.text l.at;
    }

abbrev pub decreases-loop-at : goal.decreases-loop-at
decreases-loop-at l = length l.bytes - l.at

abbrev pub invariant-loop-at-2 : goal.invariant-loop-at-2
invariant-loop-at-2 l =
    record {
      within : l.at ≤ length l.bytes;
      had : Had (has_byte l.table l.bit) l.text l.at;
    }

abbrev pub decreases-loop-at-2 : goal.decreases-loop-at-2
decreases-loop-at-2 l = length l.bytes - l.at
