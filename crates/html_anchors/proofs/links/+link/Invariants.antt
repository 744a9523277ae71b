use Rattle.std.proofs.Common.{◌≡◌, ◌≤◌, ◌++◌, List, [], map, reverse, vec_len}
use denote.Param.Weighed.{most}
use Rattle.std.specs.Prelude.{option_map}
use Rattle.html_dom_tree.{proofs.node.HtmlNode.TheLaws.{the_size}, specs.Tree.{NodeView}, specs.Views.{node_view}}
use Rattle.html_anchors.{proofs.Linking.{list_with_links}, specs.LinkTargets.{hrefs_view}, specs.Links.{dest_before}}
use Rattle.html_anchors.proofs.links.+link.Given as goal

-- those that are left stand in reverse, none deeper than those that were there
abbrev pub invariant-nodes_with_links-loop-child : goal.invariant-nodes_with_links-loop-child
invariant-nodes_with_links-loop-child l =
    let hrefs = hrefs_view l.targets in
    let left = reverse l.nodes.items in
    (before : List NodeView) × record {
      behind : option_map (λ d. d.0) l.dest ≡ dest_before before;
      agrees : map node_view l.made.items ++ list_with_links hrefs before (map node_view left)
          ≡ list_with_links hrefs [] (map node_view l.fn.nodes.items);
      deep : most the_size l.nodes.items ≤ most the_size l.fn.nodes.items;
    }

abbrev pub decreases-nodes_with_links-loop-child : goal.decreases-nodes_with_links-loop-child
decreases-nodes_with_links-loop-child l = vec_len l.nodes
