use Rattle.std.proofs.Common.{◌≡◌, length, reverse}
use Rattle.html_page_stack.specs.{Formats.{has_entry}, PageViews.{entries_of, entry_test, formats_of}}
use Rattle.html_page_stack.proofs.formats.Formats.has.Given as goal

abbrev pub invariant-loop-last : goal.invariant-loop-last
invariant-loop-last l = has_entry (entry_test l.entry) (reverse (entries_of l.outer))
    ≡ has_entry (entry_test l.entry) (formats_of l.self)

abbrev pub decreases-loop-last : goal.decreases-loop-last
decreases-loop-last l = length l.outer
