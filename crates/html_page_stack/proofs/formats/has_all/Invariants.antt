use Rattle.std.{proofs.Common.{◌≡◌, drop, map}, specs.List.{list_all}}
use Rattle.html_dom_tree.specs.{Attributes.{first}, Views.{attrs_view, pair_view}}
use Rattle.html_page_stack.specs.Formats.{has_value}
use Rattle.html_page_stack.proofs.formats.has_all.Given as goal

abbrev pub invariant-loop-pair : goal.invariant-loop-pair
invariant-loop-pair l =
    list_all (λ x. has_value (first (attrs_view l.others) x.0) x.1)
    (map pair_view (drop l.pair-index l.pair-items))
    ≡ list_all (λ x. has_value (first (attrs_view l.others) x.0) x.1) (map pair_view l.pair-items)
