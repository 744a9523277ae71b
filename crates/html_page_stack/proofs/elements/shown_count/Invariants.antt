use Rattle.std.proofs.Common.{◌≡◌, length}
use Rattle.html_page_stack.specs.{Adoption.{shown_count}, PageViews.{list_of}}
use Rattle.html_page_stack.proofs.elements.shown_count.Given as goal

abbrev pub invariant-loop-element : goal.invariant-loop-element
invariant-loop-element l = shown_count (list_of l.outer) ≡ shown_count (list_of l.elements)

abbrev pub decreases-loop-element : goal.decreases-loop-element
decreases-loop-element l = length l.outer
