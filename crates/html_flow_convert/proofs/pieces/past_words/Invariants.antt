use Rattle.std.{proofs.Common.{◌-◌, drop, length}, specs.Str.{IsCharBoundary}}
use Rattle.html_flow_convert.specs.TextStretches.{Passes}
use Rattle.html_flow_convert.proofs.pieces.past_words.Given as goal

abbrev pub invariant-loop-at : goal.invariant-loop-at
invariant-loop-at l =
    record {
      cut : IsCharBoundary l.text l.at;
      passed : Passes l.initial.ends_normal l.text l.ends (drop l.at l.text);
    }

abbrev pub decreases-loop-at : goal.decreases-loop-at
decreases-loop-at l = length l.bytes - l.at
