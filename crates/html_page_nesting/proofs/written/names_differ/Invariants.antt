use Rattle.std.proofs.Common.{◌≡◌, length, map}
use Rattle.html_dom_tree.specs.{Attributes.{names_differ}, Views.{pair_view}}
use Rattle.html_page_nesting.proofs.written.names_differ.Given as goal

abbrev pub invariant-loop-first : goal.invariant-loop-first
invariant-loop-first l =
    names_differ (map pair_view l.left) ≡ names_differ (map pair_view l.pairs)

abbrev pub decreases-loop-first : goal.decreases-loop-first
decreases-loop-first l = length l.left
