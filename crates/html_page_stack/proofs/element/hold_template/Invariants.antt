use Rattle.std.proofs.Common.{◌≡◌, drop}
use Rattle.html_dom_tree.specs.Views.{nodes_view}
use Rattle.html_page_stack.specs.OpenElements.{hold_template}
use Rattle.html_page_stack.proofs.element.hold_template.Given as goal

abbrev pub invariant-loop-node : goal.invariant-loop-node
invariant-loop-node l =
    hold_template (nodes_view (drop l.node-index l.nodes)) ≡ hold_template (nodes_view l.nodes)
