use Rattle.std.proofs.Common.{◌-◌, drop, length}
use Rattle.html_dom_flat.specs.{FlatTrees.{tree_nodes}, FlatViews.{flat_nodes_view}}
use Rattle.html_flow_convert.specs.Lines.{Stands}
use Rattle.html_flow_convert.proofs.bareness.bare_spaces.Given as goal

abbrev pub invariant-loop-place : goal.invariant-loop-place
invariant-loop-place l =
    Stands (tree_nodes l.tree) l.place
    (flat_nodes_view l.tree.names (drop l.place l.nodes)) l.last l.bare.items l.turns

abbrev pub decreases-loop-place : goal.decreases-loop-place
decreases-loop-place l = length l.nodes - l.place
