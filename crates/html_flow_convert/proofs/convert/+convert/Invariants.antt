use Rattle.std.{proofs.Common.{◌≡◌, ◌+◌, ◌*◌, ◌++◌, length, map}, specs.Vec.Iter.{into_iter_items, into_iter_len}}
use Rattle.html_dom_tree.specs.Views.{node_view}
use Rattle.html_flow_convert.specs.{Converted.{items_nodes, role_text}, Depth.{items_too_deep}, Views.{items_view}}
use Rattle.html_flow_convert.proofs.convert.+convert.Given as goal

abbrev pub invariant-convert_list-loop-pair : goal.invariant-convert_list-loop-pair
invariant-convert_list-loop-pair l =
    let role = role_text l.setting.role in
    let left = items_view (into_iter_items l.pair-iterator) in
    let all = items_view l.fn.items.items in
    record {
      agrees : map node_view l.nodes.items ++ items_nodes l.setting.whitespace role left
          ≡ items_nodes l.setting.whitespace role all;
      clean : items_too_deep l.setting.depth l.setting.limit left
          ≡ items_too_deep l.setting.depth l.setting.limit all;
      long : into_iter_len l.pair-iterator ≡ length (into_iter_items l.pair-iterator);
    }

-- a body is as deep as its list, so it counts one more
abbrev pub decreases-convert_list : goal.decreases-convert_list
decreases-convert_list l = goal.size-convert_list l * 2

abbrev pub decreases-convert_body : goal.decreases-convert_body
decreases-convert_body l = goal.size-convert_body l * 2 + 1

abbrev pub decreases-push_item : goal.decreases-push_item
decreases-push_item l = goal.size-push_item l * 2

abbrev pub decreases-push_element : goal.decreases-push_element
decreases-push_element l = goal.size-push_element l * 2
