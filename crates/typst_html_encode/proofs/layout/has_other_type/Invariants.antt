use Rattle.std.proofs.Common.{◌≡◌, map, drop}
use Rattle.html_dom_flat.specs.FlatViews.{flat_pair}
use Rattle.typst_html_encode.specs.Layout.{has_other_type}
use Rattle.typst_html_encode.proofs.layout.has_other_type.Given as goal

abbrev pub invariant-loop-number : goal.invariant-loop-number
invariant-loop-number l =
    let pair = flat_pair l.element.children.names.now in
    has_other_type (map pair (drop l.number-index l.number-items))
    ≡ has_other_type (map pair l.number-items)
