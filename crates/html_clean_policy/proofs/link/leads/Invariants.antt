use Rattle.std.proofs.Common.{◌≡◌, drop, map}
use Rattle.html_dom_tree.specs.Views.{pair_view}
use Rattle.html_clean_policy.specs.LinkRels.{leads}
use Rattle.html_clean_policy.proofs.link.leads.Given as goal

abbrev pub invariant-loop-attr : goal.invariant-loop-attr
invariant-loop-attr l =
    leads (map pair_view (drop l.attr-index l.attr-items)) ≡ leads (map pair_view l.attr-items)
