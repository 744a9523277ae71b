use Rattle.std.proofs.{Common.{◌≡◌, map, sym, ap, ◌∙◌, arith}, lemmas.Grind.{common_steps}}
use Rattle.html_dom_tree.{proofs.Styles.{nodes_styled-nodes_of}, specs.Styled.{styled_node}, specs.Views.{nodes_of, node_view}}
use Rattle.html_dom_tree.proofs.resolve.+style.Goals as goal

pub style_nodes-returns : goal.style_nodes-returns
style_nodes-returns t c =
    let old = c.args.nodes.now in
    let whole : map node_view c.loop-node.nodes ≡ map styled_node (map node_view old)
    = grind (arith, common_steps) in
    ap nodes_of whole ∙ sym (nodes_styled-nodes_of (map node_view old))
