use Rattle.std.proofs.Common.{◌≡◌}
use Rattle.html_dom_flat.specs.{Flat.{nodes_count}, Siblings.{siblings_view}}
use Rattle.typst_html_encode.specs.Layout.{nodes_want_pretty}
use Rattle.typst_html_encode.proofs.layout.nodes_want_pretty.Given as goal

abbrev pub invariant-loop-node : goal.invariant-loop-node
invariant-loop-node l =
    nodes_want_pretty (siblings_view l.left) ≡ nodes_want_pretty (siblings_view l.siblings)

abbrev pub decreases-loop-node : goal.decreases-loop-node
decreases-loop-node l = nodes_count (siblings_view l.left)
