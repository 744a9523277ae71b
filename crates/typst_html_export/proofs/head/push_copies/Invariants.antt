use Rattle.std.proofs.Common.{◌≡◌, ◌++◌, drop, map}
use Rattle.html_dom_tree.specs.Views.{node_view}
use Rattle.typst_html_export.proofs.head.push_copies.Given as goal

abbrev pub invariant-loop-node : goal.invariant-loop-node
invariant-loop-node l =
    map node_view l.nodes.items ++ map node_view (drop l.node-index l.others)
    ≡ map node_view l.initial.nodes.items ++ map node_view l.others
