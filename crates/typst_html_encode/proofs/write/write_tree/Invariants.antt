use Rattle.std.proofs.Common.{◌≡◌}
use Rattle.html_dom_flat.specs.{FlatTrees.{tree_nodes}, Siblings.{siblings_view}}
use Rattle.typst_html_encode.proofs.{Turns.{IsAt}, Walk.{rest_size}}
use Rattle.typst_html_encode.specs.{OpenElements.{open_elements_view}, WriterWalk.{next_place}}
use Rattle.typst_html_encode.proofs.write.write_tree.Given as goal

abbrev pub invariant-loop-node : goal.invariant-loop-node
invariant-loop-node g l =
    let opened = open_elements_view l.open_elements in
    record {
      stands : IsAt (g.F.FrameWriter.drawing l.frames) l.outer (tree_nodes l.tree) l.fn.out l.due
          (siblings_view l.left) opened l.out;
      at_place : l.place ≡ next_place l.outer opened;
    }

abbrev pub decreases-loop-node : goal.decreases-loop-node
decreases-loop-node g l = rest_size (siblings_view l.left) (open_elements_view l.open_elements)
