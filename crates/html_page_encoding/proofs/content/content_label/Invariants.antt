use Rattle.std.proofs.Common.{◌≡◌, length}
use Rattle.html_page_encoding.specs.ContentLabels.{content_label}
use Rattle.html_page_encoding.proofs.content.content_label.Given as goal

abbrev pub invariant-loop-later : goal.invariant-loop-later
invariant-loop-later l = content_label l.rest ≡ content_label l.fn.content

abbrev pub decreases-loop-later : goal.decreases-loop-later
decreases-loop-later l = length l.rest
