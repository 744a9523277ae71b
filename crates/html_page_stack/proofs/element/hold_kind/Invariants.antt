use Rattle.std.proofs.Common.{◌≡◌, drop}
use Rattle.html_dom_tree.specs.Views.{nodes_view}
use Rattle.html_page_names.specs.PageNames.{of}
use Rattle.html_page_stack.specs.OpenElements.{hold_named}
use Rattle.html_page_stack.proofs.element.hold_kind.Given as goal

abbrev pub invariant-loop-node : goal.invariant-loop-node
invariant-loop-node l =
    hold_named (of l.kind) (nodes_view (drop l.node-index l.nodes)) ≡ hold_named (of l.kind) (nodes_view l.nodes)
