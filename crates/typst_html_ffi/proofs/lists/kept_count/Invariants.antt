use Rattle.std.proofs.Common.{◌≡◌, ◌+◌, ◌-◌, ◌≤◌, length, drop}
use Rattle.typst_html_ffi.specs.FindingLists.{kept_count}
use Rattle.typst_html_ffi.proofs.lists.kept_count.Given as goal

abbrev pub invariant-loop-kept : goal.invariant-loop-kept
invariant-loop-kept l =
    record {
      within : l.kept ≤ length l.path;
      counted : l.kept + kept_count (drop l.kept l.previous) (drop l.kept l.path)
          ≡ kept_count l.previous l.path;
    }

abbrev pub decreases-loop-kept : goal.decreases-loop-kept
decreases-loop-kept l = length l.path - l.kept
