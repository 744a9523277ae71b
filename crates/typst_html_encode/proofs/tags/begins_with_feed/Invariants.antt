use Rattle.std.proofs.Common.{◌≡◌}
use Rattle.html_dom_flat.specs.{Flat.{nodes_count}, Siblings.{siblings_view}}
use Rattle.typst_html_encode.specs.Text.{begins_with_feed}
use Rattle.typst_html_encode.proofs.tags.begins_with_feed.Given as goal

abbrev pub invariant-loop-child : goal.invariant-loop-child
invariant-loop-child l =
    begins_with_feed (siblings_view l.left) ≡ begins_with_feed (siblings_view l.children)

abbrev pub decreases-loop-child : goal.decreases-loop-child
decreases-loop-child l = nodes_count (siblings_view l.left)
