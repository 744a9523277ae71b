use Rattle.std.proofs.Common.{◌≡◌, ◌≤◌, ◌-◌, length, take}
use Rattle.html_page_stack.specs.{ElementViews.{list_of}, Milestones.{milestone}}
use Rattle.html_page_stack.proofs.milestone.known_of.Given as goal

abbrev pub invariant-loop-index : goal.invariant-loop-index
invariant-loop-index l = (l.index ≤ length l.elements)
    × (l.milestone ≡ milestone (list_of (take l.index l.elements)))

abbrev pub decreases-loop-index : goal.decreases-loop-index
decreases-loop-index l = length l.elements - l.index
