use Rattle.std.proofs.Common.{◌≡◌, drop}
use Rattle.html_dom_tree.specs.Views.{nodes_view}
use Rattle.html_page_nesting.specs.Contents.{are_plain}
use Rattle.html_page_nesting.proofs.content.are_plain.Given as goal

abbrev pub invariant-loop-node : goal.invariant-loop-node
invariant-loop-node l =
    are_plain l.pre_span (nodes_view (drop l.node-index l.nodes))
    ≡ are_plain l.pre_span (nodes_view l.nodes)
