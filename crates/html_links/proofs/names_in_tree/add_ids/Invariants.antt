use Rattle.std.proofs.Common.{◌≡◌, ◌++◌, map, drop}
use Rattle.html_dom_tree.specs.Views.{pair_view}
use Rattle.html_links.specs.{Distinct.{names_view}, TreeNames.{all_ids}}
use Rattle.html_links.proofs.names_in_tree.add_ids.Given as goal

abbrev pub invariant-loop-pair : goal.invariant-loop-pair
invariant-loop-pair l =
    names_view l.names.items ++ all_ids (map pair_view (drop l.pair-index l.pair-items))
    ≡ names_view l.fn.names.items ++ all_ids (map pair_view l.pair-items)
