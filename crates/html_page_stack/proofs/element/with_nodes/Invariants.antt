use Rattle.std.{proofs.Common.{◌≡◌}, specs.Vec.Iter.{into_iter_items}}
use Rattle.html_dom_tree.specs.{Tree.{ElementView}, Views.{element_view, nodes_view}}
use Rattle.html_page_stack.specs.OpenElements.{with_last_nodes}
use Rattle.html_page_stack.proofs.element.with_nodes.Given as goal

abbrev pub invariant-loop-node : goal.invariant-loop-node
invariant-loop-node l =
    let now = element_view l.grown in
    let e = element_view l.fn.element in
    let left : ElementView = (now.0, with_last_nodes now.1 (nodes_view (into_iter_items l.node-iterator))) in
    let all : ElementView = (e.0, with_last_nodes e.1 (nodes_view l.fn.nodes.items)) in
    left ≡ all
