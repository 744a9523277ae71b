use Rattle.std.proofs.Common.{◌≡◌, drop}
use Rattle.html_dom_tree.specs.Views.{nodes_view}
use Rattle.html_page_nesting.specs.PageRoots.{stage_behind_nodes}
use Rattle.html_page_nesting.specs.declared.page.Stage.TheVariants as stage
use Rattle.html_page_nesting.proofs.page.is_complete.Given as goal

abbrev pub invariant-loop-node : goal.invariant-loop-node
invariant-loop-node l =
    stage_behind_nodes l.stage (nodes_view (drop l.node-index l.nodes))
    ≡ stage_behind_nodes stage.First (nodes_view l.nodes)
