use Rattle.std.proofs.Common.{◌≡◌, ◌+◌, ◌*◌, take}
use Rattle.html_flow_convert.specs.Views.{pairs_view}
use Rattle.html_flow_convert.proofs.item.+copy.Given as goal

abbrev pub invariant-copied_pairs-loop-pair : goal.invariant-copied_pairs-loop-pair
invariant-copied_pairs-loop-pair l =
    pairs_view l.copies.items ≡ pairs_view (take l.pair-index l.pairs)

-- a body is as deep as its list, and that may be as deep as an item in it, so each counts one more
abbrev pub decreases-copy_body : goal.decreases-copy_body
decreases-copy_body l = goal.size-copy_body l * 3 + 2

abbrev pub decreases-copied_pairs : goal.decreases-copied_pairs
decreases-copied_pairs l = goal.size-copied_pairs l * 3 + 1

abbrev pub decreases-Pair::try_clone : goal.decreases-Pair::try_clone
decreases-Pair::try_clone l = goal.size-Pair::try_clone l * 3

abbrev pub decreases-Item::try_clone : goal.decreases-Item::try_clone
decreases-Item::try_clone l = goal.size-Item::try_clone l * 3

abbrev pub decreases-HtmlElem::try_clone : goal.decreases-HtmlElem::try_clone
decreases-HtmlElem::try_clone l = goal.size-HtmlElem::try_clone l * 3
