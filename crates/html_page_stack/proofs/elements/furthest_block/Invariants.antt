use Rattle.std.{proofs.Common.{◌≡◌, length}, specs.Option.{option_or}}
use Rattle.html_page_stack.specs.{Adoption.{furthest_block}, PageViews.{list_of}}
use Rattle.html_page_stack.proofs.elements.furthest_block.Given as goal

abbrev pub invariant-loop-element : goal.invariant-loop-element
invariant-loop-element l = option_or (furthest_block l.index (list_of l.outer)) l.block
    ≡ furthest_block l.index (list_of l.elements)

abbrev pub decreases-loop-element : goal.decreases-loop-element
decreases-loop-element l = length l.outer
