use Rattle.std.{proofs.Common.{◌≡◌, ◌+◌, ◌*◌, length}, specs.Vec.Iter.{into_iter_items, into_iter_len}}
use Rattle.serde_json.{proofs.value.Value.TheLaws.{the_size}, specs.View.{view}}
use Rattle.html_flow_convert.specs.Views.{pair_view}
use Rattle.typst_html_json.{proofs.ItemRows.{items_row}, proofs.Rows.{IsPartRead}, specs.Reading.{mark}, specs.SpelledItems.{list_at}}
use Rattle.typst_html_json.proofs.items.+spell.Given as goal

-- the depth of what is read; a call that passes all of it on, or its deepest part, ranks above the
-- call that it makes
abbrev pub decreases-pair_of : goal.decreases-pair_of
decreases-pair_of l = 8 * goal.size-pair_of l

abbrev pub decreases-opened_pair : goal.decreases-opened_pair
decreases-opened_pair l = 8 * goal.size-opened_pair l + 7

abbrev pub decreases-form_of : goal.decreases-form_of
decreases-form_of l = 8 * goal.size-form_of l + 6

abbrev pub decreases-with_role : goal.decreases-with_role
decreases-with_role l = 8 * goal.size-with_role l + 4

abbrev pub decreases-pair_with : goal.decreases-pair_with
decreases-pair_with l = 8 * the_size l.item + 1

abbrev pub decreases-item_of : goal.decreases-item_of
decreases-item_of l = 8 * goal.size-item_of l + 5

abbrev pub decreases-element_of : goal.decreases-element_of
decreases-element_of l = 8 * goal.size-element_of l + 4

abbrev pub decreases-plain_of : goal.decreases-plain_of
decreases-plain_of l = 8 * goal.size-plain_of l + 3

abbrev pub decreases-styled_of : goal.decreases-styled_of
decreases-styled_of l = 8 * goal.size-styled_of l + 3

abbrev pub decreases-styled_with : goal.decreases-styled_with
decreases-styled_with l = 8 * the_size l.list + 2

abbrev pub decreases-element_with : goal.decreases-element_with
decreases-element_with l = 8 * the_size l.list + 1

abbrev pub decreases-block_of : goal.decreases-block_of
decreases-block_of l = 8 * goal.size-block_of l + 3

abbrev pub decreases-box_of : goal.decreases-box_of
decreases-box_of l = 8 * goal.size-box_of l + 3

abbrev pub decreases-body_of : goal.decreases-body_of
decreases-body_of l = 8 * goal.size-body_of l + 2

abbrev pub decreases-list_of : goal.decreases-list_of
decreases-list_of l = 8 * goal.size-list_of l

abbrev pub invariant-list_of-loop-value : goal.invariant-list_of-loop-value
invariant-list_of-loop-value l =
    let left = into_iter_items l.value-iterator in
    record {
      read : IsPartRead (items_row l.fn.forms) pair_view
          (list_at l.fn.forms (view l.fn.value) (mark l.fn.reader)) left l.items.items l.fn.reader
          l.reader;
      long : into_iter_len l.value-iterator ≡ length left;
    }
