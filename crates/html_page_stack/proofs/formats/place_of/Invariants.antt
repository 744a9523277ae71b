use Rattle.std.proofs.Common.{◌≡◌, List, ◌++◌, reverse, length, Option}
use Rattle.html_page_stack.specs.{Formats.{Format, without_entry}, PageViews.{entries_of, entry_test}}
use Rattle.html_page_stack.proofs.formats.place_of.Given as goal

abbrev pub invariant-loop-last : goal.invariant-loop-last
invariant-loop-last l =
    (back : List (Option Format)) × record {
      whole : entries_of l.entries ≡ entries_of l.outer ++ back;
      without : without_entry (entry_test l.entry) l.others (reverse (entries_of l.entries))
          ≡ reverse back ++ without_entry (entry_test l.entry) l.left (reverse (entries_of l.outer));
    }

abbrev pub decreases-loop-last : goal.decreases-loop-last
decreases-loop-last l = length l.outer
