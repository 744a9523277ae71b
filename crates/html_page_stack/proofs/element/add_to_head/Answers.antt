use Rattle.html_dom_tree.specs.Views.{node_view}
use Rattle.html_page_stack.proofs.Children.{first_changed}
use Rattle.html_page_stack.proofs.element.add_to_head.Goals as goal

pub returns-in_ok-add_to_node : goal.returns-in_ok-add_to_node
returns-in_ok-add_to_node c =
    let found = c.in-Some.ensures.item in
    first_changed c.args.nodes.now c.in-Some.head.now found.3.0 found.1 (node_view c.args.child)
    c.add_to_node.new.parent c.in_ok-add_to_node.ensures
