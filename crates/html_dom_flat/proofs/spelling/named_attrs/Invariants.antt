use Rattle.std.proofs.Common.{◌≡◌, map, take}
use Rattle.html_dom_tree.specs.Views.{pair_view}
use Rattle.html_dom_flat.specs.FlatViews.{flat_pair}
use Rattle.html_dom_flat.proofs.spelling.named_attrs.Given as goal

abbrev pub invariant-loop-number : goal.invariant-loop-number
invariant-loop-number l =
    map pair_view l.attrs.items ≡ map (flat_pair l.names) (take l.number-index l.pairs)
