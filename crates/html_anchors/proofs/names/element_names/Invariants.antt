use Rattle.std.proofs.Common.{◌≡◌, drop}
use Rattle.html_names_core.specs.Names.{stands_in}
use Rattle.html_links.specs.{Distinct.{names_view}, UsedNames.{used_in, with_names}}
use Rattle.html_anchors.proofs.names.element_names.Given as goal

abbrev pub invariant-loop-name : goal.invariant-loop-name
invariant-loop-name l =
    with_names (names_view (drop l.name-index l.name-items)) (used_in l.names.used)
    ≡ stands_in (names_view l.name-items)
