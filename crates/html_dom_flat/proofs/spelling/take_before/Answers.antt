use Rattle.std.proofs.{Common.{rules, ◌≡◌, [], ◌∷◌, ◌++◌, ap, sym, ◌∙◌, append_assoc, map}, lemmas.List.{map-append}}
use Rattle.html_dom_tree.specs.Views.{node_view}
use Rattle.html_dom_flat.{proofs.Stacking.{popped_before, popped_after}, specs.Stacks.{stack_view, stacked_before, rest_after}}
use Rattle.html_dom_flat.proofs.spelling.take_before.Goals as goal

pub loop-node-preserved : goal.loop-node-preserved
loop-node-preserved c =
    let past = c.args.past in
    let nodes = c.loop-node.nodes.items in
    let left = stack_view c.pop_before.new.stack.items in
    let popped = c.in-Some.ensures in
    let puts : c.push.new.self.items ≡ nodes ++ c.in-Some.node ∷ [] = search rules in
    let first = ap (stacked_before past) popped.2
    ∙ popped_before past popped.0 (node_view c.in-Some.node) left popped.1 in
    let others = ap (rest_after past) popped.2
    ∙ popped_after past popped.0 (node_view c.in-Some.node) left popped.1 in
    record {
      taken = rw (puts, map-append, append_assoc)
          (ap (λ ns. map node_view nodes ++ ns) (sym first) ∙ c.loop-node.invariant.taken);
      rest = sym others ∙ c.loop-node.invariant.rest;
    }
