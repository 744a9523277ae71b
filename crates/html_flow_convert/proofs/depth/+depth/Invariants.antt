use Rattle.std.proofs.Common.{◌≡◌, ◌+◌, ◌*◌, drop}
use Rattle.html_flow_convert.specs.{Depth.{items_too_deep}, Views.{items_view}}
use Rattle.html_flow_convert.proofs.depth.+depth.Given as goal

abbrev pub invariant-items_too_deep-loop-pair : goal.invariant-items_too_deep-loop-pair
invariant-items_too_deep-loop-pair l =
    items_too_deep l.depth l.limit (items_view (drop l.pair-index l.items))
    ≡ items_too_deep l.depth l.limit (items_view l.items)

-- a body is as deep as its list, so it counts one more
abbrev pub decreases-items_too_deep : goal.decreases-items_too_deep
decreases-items_too_deep l = goal.size-items_too_deep l * 2

abbrev pub decreases-body_too_deep : goal.decreases-body_too_deep
decreases-body_too_deep l = goal.size-body_too_deep l * 2 + 1

abbrev pub decreases-item_too_deep : goal.decreases-item_too_deep
decreases-item_too_deep l = goal.size-item_too_deep l * 2
