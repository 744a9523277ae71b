use Rattle.std.proofs.Common.{◌≡◌, map, drop, codes}
use Rattle.html_dom_tree.specs.Attributes.{first}
use Rattle.html_dom_flat.specs.FlatViews.{flat_pair}
use Rattle.typst_html_encode.proofs.layout.shows_as_block.Given as goal

abbrev pub invariant-loop-number : goal.invariant-loop-number
invariant-loop-number l =
    let pair = flat_pair l.element.children.names.now in
    first (map pair (drop l.number-index l.number-items)) (codes "display")
    ≡ first (map pair l.number-items) (codes "display")
