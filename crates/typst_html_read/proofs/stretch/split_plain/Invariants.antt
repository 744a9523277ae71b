use Rattle.std.{proofs.Common.{◌≡◌, ◌-◌, ◌≤◌, true, length, take}, specs.List.{list_all}}
use Rattle.typst_html_read.specs.Stretches.{is_plain}
use Rattle.typst_html_read.proofs.stretch.split_plain.Given as goal

abbrev pub invariant-loop-at : goal.invariant-loop-at
invariant-loop-at l =
    record {
      within : l.at ≤ length l.text;
      plain : list_all (is_plain l.end) (take l.at l.text) ≡ true;
    }

abbrev pub decreases-loop-at : goal.decreases-loop-at
decreases-loop-at l = length l.bytes - l.at
