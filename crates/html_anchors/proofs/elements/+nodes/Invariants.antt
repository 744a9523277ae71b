use Rattle.std.proofs.Common.{◌≡◌, ◌≤◌, false, take, drop, reverse, vec_len}
use denote.Param.Weighed.{most}
use Rattle.html_dom_tree.{proofs.node.HtmlNode.TheLaws.{the_size}, specs.Views.{nodes_view}}
use Rattle.html_anchors.proofs.WholeWalk.{has_end}
use Rattle.html_anchors.specs.{AnchorWalk.{walk}, Joined.{walked_behind}, WalkViews.{state_view, targets_view}}
use Rattle.html_anchors.proofs.elements.+nodes.Given as goal

abbrev pub invariant-anchor_in_place-loop-child : goal.invariant-anchor_in_place-loop-child
invariant-anchor_in_place-loop-child l =
    let x = targets_view l.sought in
    let i = l.child-index in
    record {
      unvisited : goal.unvisited-anchor_in_place-loop-child l;
      agrees : walked_behind (nodes_view (take i l.nodes))
          (walk x (nodes_view (drop i l.nodes)) (state_view l.state))
          ≡ walk x (nodes_view l.initial.nodes) (state_view l.initial.state);
      no_end : has_end (drop i l.nodes) ≡ false;
    }

-- those that are left stand in reverse, none deeper than those that were there
abbrev pub invariant-with_spans-loop-child : goal.invariant-with_spans-loop-child
invariant-with_spans-loop-child l =
    let x = targets_view l.sought in
    let left = reverse l.nodes.items in
    record {
      agrees : walked_behind (nodes_view l.made.items) (walk x (nodes_view left) (state_view l.state))
          ≡ walk x (nodes_view l.fn.nodes.items) (state_view l.fn.state);
      deep : most the_size l.nodes.items ≤ most the_size l.fn.nodes.items;
    }

abbrev pub decreases-with_spans-loop-child : goal.decreases-with_spans-loop-child
decreases-with_spans-loop-child l = vec_len l.nodes
