use Rattle.std.proofs.Common.{◌≡◌, drop}
use Rattle.html_dom_tree.specs.Views.{nodes_view}
use Rattle.html_page_nesting.specs.Contents.{begin_with_feed}
use Rattle.html_page_nesting.proofs.content.begin_with_feed.Given as goal

abbrev pub invariant-loop-node : goal.invariant-loop-node
invariant-loop-node l =
    begin_with_feed (nodes_view (drop l.node-index l.nodes)) ≡ begin_with_feed (nodes_view l.nodes)
