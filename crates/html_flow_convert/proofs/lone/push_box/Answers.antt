use Rattle.std.proofs.Common.{◌≡◌, None, Some, map}
use Rattle.html_dom_tree.specs.Views.{node_view, nodes_view}
use Rattle.html_flow_convert.{proofs.LoneNodes.{node_list_of}, specs.LoneNode.{change_view, lone_node, box_change_of}}
use Rattle.html_flow_convert.proofs.lone.push_box.Goals as goal

pub returns-in-Some : goal.returns-in-Some
returns-in-Some c =
    let body = c.args.body.items in
    let found : Some (change_view c.in-Some.change) ≡ box_change_of (lone_node (nodes_view body)) =
    rw c.deref.ensures.value at c.in-Some.ensures in
    rw (← found, node_list_of (map node_view body)) c.push_displayed.ensures

pub returns-in_ok-box_element-in-None : goal.returns-in_ok-box_element-in-None
returns-in_ok-box_element-in-None c =
    let found : None ≡ box_change_of (lone_node (nodes_view c.args.body.items)) =
    rw c.deref.ensures.value at c.in-None.ensures in
    rw (← found, ← c.in_ok-box_element-in-None.ensures) c.push_around.ensures
