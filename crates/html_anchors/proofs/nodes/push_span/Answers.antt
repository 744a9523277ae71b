use Rattle.std.proofs.Common.{ap, sym, ◌∙◌}
use Rattle.html_dom_tree.{proofs.Basics.{node_view-Element}, specs.Tree.{element_node, node, none}, specs.Views.{text_view, nodes_view}}
use Rattle.html_anchors.{proofs.Steps.{then-none, nodes_view-push}, specs.Anchors.{span_head}}
use Rattle.html_dom_document.specs.DomIndices.{◌then◌}
use Rattle.html_anchors.proofs.nodes.push_span.Goals as goal

pub returns-in_ok-push : goal.returns-in_ok-push
returns-in_ok-push c =
    let old = c.args.made.now.items in
    let head = span_head (text_view c.in-Some.name) 0 in
    let is = node_view-Element c.in_ok-span.span
    ∙ (ap (λ e. element_node e.0 e.1) c.in_ok-span.ensures
    ∙ ap (λ ns. element_node head (nodes_view ns)) c.new.ensures.items) in
    rw c.in-Some.is (ap nodes_view c.in_ok-push.ensures.items
    ∙ (nodes_view-push old _ ∙ ap (λ n. nodes_view old then node n none) is))

pub returns-in_default : goal.returns-in_default
returns-in_default c = rw c.in_default.is (sym (then-none (nodes_view c.args.made.now.items)))
