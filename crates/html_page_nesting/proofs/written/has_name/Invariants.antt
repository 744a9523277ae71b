use Rattle.std.proofs.Common.{◌≡◌, drop, map}
use Rattle.html_dom_tree.specs.{Attributes.{has_name}, Views.{pair_view}}
use Rattle.html_page_nesting.proofs.written.has_name.Given as goal

abbrev pub invariant-loop-pair : goal.invariant-loop-pair
invariant-loop-pair l =
    has_name (map pair_view (drop l.pair-index l.pairs)) l.name
    ≡ has_name (map pair_view l.pairs) l.name
