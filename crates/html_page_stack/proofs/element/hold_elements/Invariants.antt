use Rattle.std.proofs.Common.{◌≡◌, drop}
use Rattle.html_dom_tree.specs.Views.{nodes_view}
use Rattle.html_page_stack.specs.OpenElements.{has_elements}
use Rattle.html_page_stack.proofs.element.hold_elements.Given as goal

abbrev pub invariant-loop-node : goal.invariant-loop-node
invariant-loop-node l =
    has_elements (nodes_view (drop l.node-index l.nodes)) ≡ has_elements (nodes_view l.nodes)
