use Rattle.std.proofs.Common.{◌≡◌, drop}
use Rattle.html_dom_tree.specs.Views.{nodes_view}
use Rattle.html_links.specs.Bases.{nodes_base}
use Rattle.html_links.proofs.bases.+bases.Given as goal

abbrev pub invariant-base_among-loop-child : goal.invariant-base_among-loop-child
invariant-base_among-loop-child l =
    nodes_base (nodes_view (drop l.child-index l.nodes)) ≡ nodes_base (nodes_view l.nodes)
