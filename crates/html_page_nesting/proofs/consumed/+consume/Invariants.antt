use Rattle.std.proofs.Common.{◌≡◌, ◌+◌, ◌-◌, ◌*◌, length, reverse, vec_len}
use Rattle.html_dom_tree.{proofs.Taking.{Left}, specs.Views.{nodes_view}}
use Rattle.html_page_nesting.specs.Walks.{nodes_walk}
use Rattle.html_page_nesting.proofs.consumed.+consume.Given as goal

-- those that are left stand in reverse
abbrev pub invariant-pass_nodes_of-loop-child : goal.invariant-pass_nodes_of-loop-child
invariant-pass_nodes_of-loop-child g l =
    let made = g.S.MisnestedSink.made_with in
    let parent = l.fn.path.items in
    record {
      path : l.path.items ≡ parent;
      taken : Left (made l.fn.reports.sink) (made l.reports.sink)
          (nodes_walk parent 0 l.around (nodes_view l.fn.nodes.items))
          (nodes_walk parent l.index l.around (nodes_view (reverse l.nodes.items)));
      count : l.index + length l.nodes.items ≡ length l.fn.nodes.items;
    }

abbrev pub decreases-pass_nodes_of-loop-child : goal.decreases-pass_nodes_of-loop-child
decreases-pass_nodes_of-loop-child g l = vec_len l.nodes

-- each element has one ancestor more
abbrev pub decreases-pass_element_of : goal.decreases-pass_element_of
decreases-pass_element_of g l = 3 * (513 - l.around.now.depth)

abbrev pub decreases-pass_node_of : goal.decreases-pass_node_of
decreases-pass_node_of g l = 3 * (513 - l.around.now.depth) + 1

abbrev pub decreases-pass_nodes_of : goal.decreases-pass_nodes_of
decreases-pass_nodes_of g l = 3 * (513 - l.around.now.depth) + 2
