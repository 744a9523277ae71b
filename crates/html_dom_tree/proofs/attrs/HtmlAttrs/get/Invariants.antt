use Rattle.std.proofs.Common.{◌≡◌, map, drop}
use Rattle.html_dom_tree.specs.{Attributes.{first}, Views.{pair_view}}
use Rattle.html_dom_tree.proofs.attrs.HtmlAttrs.get.Given as goal

abbrev pub invariant-loop-pair : goal.invariant-loop-pair
invariant-loop-pair l =
    first (map pair_view (drop l.pair-index l.pair-items)) l.attr
    ≡ first (map pair_view l.pair-items) l.attr
