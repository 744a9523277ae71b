use Rattle.std.proofs.Common.{◌≡◌, vec_len}
use Rattle.html_page_stack.specs.{Formats.{before_marker}, PageViews.{formats_of}}
use Rattle.html_page_stack.proofs.formats.Formats.remove_marker.Given as goal

abbrev pub invariant-loop-entry : goal.invariant-loop-entry
invariant-loop-entry l = before_marker (formats_of l.self) ≡ before_marker (formats_of l.fn.self)

abbrev pub decreases-loop-entry : goal.decreases-loop-entry
decreases-loop-entry l = vec_len l.self.entries
