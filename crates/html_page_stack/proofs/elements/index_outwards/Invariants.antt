use Rattle.std.proofs.Common.{◌≡◌, length}
use Rattle.html_page_stack.specs.{Adoption.{index_outwards}, PageViews.{list_of}}
use Rattle.html_page_stack.proofs.elements.index_outwards.Given as goal

abbrev pub invariant-loop-element : goal.invariant-loop-element
invariant-loop-element l = index_outwards l.left (list_of l.outer)
    ≡ index_outwards l.count (list_of l.elements)

abbrev pub decreases-loop-element : goal.decreases-loop-element
decreases-loop-element l = length l.outer
