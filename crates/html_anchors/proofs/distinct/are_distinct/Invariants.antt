use Rattle.std.proofs.Common.{◌≡◌, drop}
use Rattle.html_links.{proofs.Differing.{are_new}, specs.Distinct.{are_distinct, names_view}, specs.UsedNames.{used_in}}
use Rattle.html_anchors.proofs.distinct.are_distinct.Given as goal

abbrev pub invariant-loop-name : goal.invariant-loop-name
invariant-loop-name l =
    are_new (used_in l.used) (names_view (drop l.name-index l.names))
    ≡ are_distinct (names_view l.names)
