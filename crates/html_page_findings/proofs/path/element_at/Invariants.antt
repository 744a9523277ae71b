use Rattle.std.proofs.Common.{◌≡◌, drop}
use Rattle.html_dom_tree.specs.Views.{element_view}
use Rattle.html_page_findings.specs.ElementPaths.{element_at}
use Rattle.html_page_findings.proofs.path.element_at.Given as goal

abbrev pub invariant-loop-index : goal.invariant-loop-index
invariant-loop-index l =
    element_at (drop l.index-index l.path) (element_view l.element) ≡ element_at l.path (element_view l.root)
