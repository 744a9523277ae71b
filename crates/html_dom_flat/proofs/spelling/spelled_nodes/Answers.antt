use Rattle.std.proofs.{Common.{◌≡◌, [], ◌++◌, ap, sym, ◌∙◌, append-nil, map, arith}, lemmas.Grind.{common_steps}}
use Rattle.html_dom_tree.specs.Views.{node_view, nodes_of}
use Rattle.html_dom_flat.proofs.Stacking.{stack_spells}
use Rattle.html_dom_flat.specs.{FlatViews.{flat_nodes_view}, Stacks.{indexed_node, stack_view, stack_nodes}}
use Rattle.html_dom_flat.proofs.spelling.spelled_nodes.Goals as goal

pub returns : goal.returns
returns c =
    let made = map node_view c.loop-node.made.items in
    let empty : c.loop-node.stack.items ≡ [] = grind (arith, common_steps) in
    let all = sym (append-nil made)
    ∙ (ap (λ stack. made ++ map indexed_node (stack_view stack)) (sym empty)
    ∙ c.loop-node.invariant) in
    ap nodes_of all ∙ (ap stack_nodes c.in_ok-stack.ensures
    ∙ stack_spells 0 (flat_nodes_view c.args.names.now c.args.nodes.now))
