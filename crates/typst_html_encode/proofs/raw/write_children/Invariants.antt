use Rattle.html_dom_flat.specs.{Flat.{nodes_count}, Siblings.{siblings_view}}
use Rattle.typst_html_encode.proofs.RawChildren.{RawLeft}
use Rattle.typst_html_encode.proofs.raw.write_children.Given as goal

abbrev pub invariant-loop-child : goal.invariant-loop-child
invariant-loop-child l =
    RawLeft l.escaping (siblings_view l.left) (siblings_view l.children) l.out l.fn.out

abbrev pub decreases-loop-child : goal.decreases-loop-child
decreases-loop-child l = nodes_count (siblings_view l.left)
