use Rattle.std.{proofs.Common.{◌≡◌, ap, ◌∙◌, sym, subst}, specs.Prelude.{OnOk}}
use Rattle.html_dom_tree.specs.Views.{head_of, nodes_view}
use Rattle.html_flow_convert.proofs.{Looks.{inside_seen, other_seen}, Walking.{walk_step, walk_end}}
use Rattle.html_flow_convert.specs.{BareSpaces.{nodes_things}, Walks.{walk_on, walk_view}}
use Rattle.html_flow_convert.proofs.answers.SpaceWalk.+walk.Goals as goal

pub see_element-returns-then-is_inside : goal.see_element-returns-then-is_inside
see_element-returns-then-is_inside t c =
    let e = c.args.element.now in
    let inside = nodes_things (nodes_view e.children.items) in
    let seen = ap (λ ns. nodes_things (nodes_view ns)) c.deref.ensures.value
    ∙ inside_seen (head_of e) c.look_of-look.result inside c.look_of-look.ensures
    (sym c.is_inside.ensures ∙ c.if-is_inside.true) in
    subst (λ ts. OnOk c.see_nodes.result
    (walk_view c.see_nodes.new.self ≡ walk_on (walk_view c.args.self.now) ts)) seen c.see_nodes.ensures

pub see_element-returns : goal.see_element-returns
see_element-returns t c =
    let e = c.args.element.now in
    let inside = nodes_things (nodes_view e.children.items) in
    let seen = other_seen (head_of e) c.look_of-look.result inside c.look_of-look.ensures
    (sym c.is_inside.ensures ∙ c.if-is_inside.false) in
    subst (λ ts. OnOk c.see.result
    (walk_view c.see.new.self ≡ walk_on (walk_view c.args.self.now) ts)) seen c.see.ensures

pub see_nodes-loop-node-preserved : goal.see_nodes-loop-node-preserved
see_nodes-loop-node-preserved t c =
    let at = c.loop-node in
    walk_step (walk_view at.self) (walk_view c.see_node.new.self) _ c.args.nodes.now at.node-index
    c.node-item.result c.loop-node-test.true c.node-item.is at.invariant c.in_ok-see_node.ensures

pub see_nodes-returns : goal.see_nodes-returns
see_nodes-returns t c =
    let at = c.loop-node in
    walk_end (walk_view at.self) _ c.args.nodes.now at.node-index c.loop-node-test.false at.invariant
