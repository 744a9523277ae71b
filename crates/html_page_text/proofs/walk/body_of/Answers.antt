use Rattle.std.proofs.{Common.{◌≡◌, ◌+◌, [], Some, None, drop, length-drop, ap, sym, arith, ◌∙◌}, lemmas.List.{nil_from_length}}
use Rattle.std.specs.Prelude.{option_map}
use Rattle.html_dom_tree.proofs.Nodes.{nodes_view-drop}
use Rattle.html_dom_tree.specs.{Attributes.{or_else}, Tree.{none, node}, Views.{element_view, node_view, nodes_view}}
use Rattle.html_dom_shown.specs.Bodies.{body_children}
use Rattle.html_page_text.{proofs.Bodies.{body_first}, specs.Unseen.{seen_nodes}}
use Rattle.html_page_text.proofs.walk.body_of.Goals as goal

pub returns-in-Some : goal.returns-in-Some
returns-in-Some c =
    let nodes = c.args.nodes.now in
    let i = c.loop-child.child-index in
    let child = c.child-item.result in
    let rest = nodes_view (drop (i + 1) nodes) in
    let one : Some (seen_nodes (element_view c.in-Some.body.now).1)
    ≡ body_children (seen_nodes (node (node_view child) none)) =
    ap (option_map (λ b. seen_nodes (element_view b.now).1)) (sym c.in-Some.is) ∙ c.as_body.ensures in
    ap (λ o. or_else o (body_children (seen_nodes rest))) one
    ∙ (sym (body_first (node_view child) rest)
    ∙ (ap (λ l. body_children (seen_nodes l))
    (sym (nodes_view-drop nodes i child c.loop-child-test.true c.child-item.is))
    ∙ c.loop-child.invariant))

pub loop-child-preserved : goal.loop-child-preserved
loop-child-preserved c =
    let nodes = c.args.nodes.now in
    let i = c.loop-child.child-index in
    let child = c.child-item.result in
    let rest = nodes_view (drop (i + 1) nodes) in
    let one : None ≡ body_children (seen_nodes (node (node_view child) none)) =
    ap (option_map (λ b. seen_nodes (element_view b.now).1)) (sym c.in_default.is)
    ∙ c.as_body.ensures in
    ap (λ o. or_else o (body_children (seen_nodes rest))) one
    ∙ (sym (body_first (node_view child) rest)
    ∙ (ap (λ l. body_children (seen_nodes l))
    (sym (nodes_view-drop nodes i child c.loop-child-test.true c.child-item.is))
    ∙ c.loop-child.invariant))

pub returns : goal.returns
unfolding seen_nodes
returns c =
    let left = drop c.loop-child.child-index c.args.nodes.now in
    let none : left ≡ [] = nil_from_length left
    (length-drop c.loop-child.child-index c.args.nodes.now ∙ omega arith) in
    ap (λ ns. body_children (seen_nodes (nodes_view ns))) (sym none) ∙ c.loop-child.invariant
