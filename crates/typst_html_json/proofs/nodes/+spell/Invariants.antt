use Rattle.std.{proofs.Common.{◌≡◌, ◌+◌, ◌*◌, length}, specs.Vec.Iter.{into_iter_items, into_iter_len}}
use Rattle.serde_json.proofs.value.Value.TheLaws.{the_size}
use Rattle.serde_json.specs.declared.value.Value as Value
use Rattle.serde_json.specs.View.{view}
use Rattle.typst_html_json.{proofs.NodeRows.{ArePartAdded}, specs.Reading.{mark}, specs.Spelled.{list_at}}
use Rattle.typst_html_json.proofs.nodes.+spell.Given as goal

-- the depth of what is read; a call that passes all of it on, or its deepest part, ranks above the
-- call that it makes
abbrev pub decreases-push_node : goal.decreases-push_node
decreases-push_node l = 5 * the_size l.value + 4

abbrev pub decreases-push_list : goal.decreases-push_list
decreases-push_list l = 5 * the_size (Value.Array l.list) + 3

abbrev pub decreases-push_form : goal.decreases-push_form
decreases-push_form l = 5 * the_size (Value.Array l.list) + 2

abbrev pub decreases-push_element : goal.decreases-push_element
decreases-push_element l = 5 * the_size (Value.Array l.list) + 1

abbrev pub decreases-push_element_with : goal.decreases-push_element_with
decreases-push_element_with l = 5 * the_size l.list + 5

abbrev pub decreases-push_nodes : goal.decreases-push_nodes
decreases-push_nodes l = 5 * the_size l.value

abbrev pub invariant-push_nodes-loop-value : goal.invariant-push_nodes-loop-value
invariant-push_nodes-loop-value l =
    let left = into_iter_items l.value-iterator in
    record {
      added : ArePartAdded (list_at (view l.fn.value) (mark l.fn.reader)) left l.fn.builder
          l.builder l.fn.reader l.reader;
      long : into_iter_len l.value-iterator ≡ length left;
    }
