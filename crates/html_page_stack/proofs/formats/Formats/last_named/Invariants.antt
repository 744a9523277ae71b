use Rattle.std.proofs.Common.{◌≡◌, length, reverse}
use Rattle.html_page_stack.specs.{Formats.{is_named, last_entry}, PageViews.{entries_of, formats_of}}
use Rattle.html_page_stack.proofs.formats.Formats.last_named.Given as goal

abbrev pub invariant-loop-last : goal.invariant-loop-last
invariant-loop-last l = last_entry (is_named l.tag) (reverse (entries_of l.outer))
    ≡ last_entry (is_named l.tag) (formats_of l.self)

abbrev pub decreases-loop-last : goal.decreases-loop-last
decreases-loop-last l = length l.outer
