use Rattle.std.proofs.Common.{arith}
use Rattle.html_dom_flat.specs.FlatTrees.{tree_nodes}
use Rattle.html_flow_convert.proofs.{Lines.{stands_next, stands_end}, Turns.{turns_among}}
use Rattle.html_flow_convert.proofs.bareness.bare_spaces.Goals as goal

pub loop-place-smaller : goal.loop-place-smaller
loop-place-smaller c =
    let on = stands_next c.args.tree.now.names c.nodes-nodes.result.now (tree_nodes c.args.tree.now)
    _ _ _ _ _ _ _ _ c.loop-place-test.true c.index-nodes-place.is c.flat_look-look.ensures
    c.next_place-place.ensures c.in_ok-push_answer.ensures c.loop-place.invariant in
    omega (arith, c.loop-place-test.true, on.0)

pub loop-place-preserved : goal.loop-place-preserved
loop-place-preserved c =
    rw c.after-last.ensures (stands_next c.args.tree.now.names c.nodes-nodes.result.now
    (tree_nodes c.args.tree.now) _ _ _ _ _ _ _ _ c.loop-place-test.true c.index-nodes-place.is
    c.flat_look-look.ensures c.next_place-place.ensures c.in_ok-push_answer.ensures
    c.loop-place.invariant).1

pub returns : goal.returns
returns c =
    let answers = stands_end c.args.tree.now.names c.nodes-nodes.result.now
    (tree_nodes c.args.tree.now) _ _ _ _ _ c.loop-place-test.false c.in_ok-push_answer-2.ensures
    c.loop-place.invariant in
    record {
      answers = answers;
      few = omega (arith, answers.1, turns_among (tree_nodes c.args.tree.now));
    }
