use Rattle.std.proofs.Common.{◌≡◌, ◌+◌, ◌-◌, ◌<◌, ap, sym, ◌∙◌, arith, length}
use Rattle.html_dom_flat.proofs.Stacking.{stacked_more, stacked_none}
use Rattle.html_dom_flat.specs.{FlatViews.{flat_node_view}, Stacks.{stack_view, made_of}}
use Rattle.html_dom_flat.proofs.spelling.stacked.Goals as goal

pub loop-index-init : goal.loop-index-init
loop-index-init c =
    record {
      within = omega arith;
      stack = rw c.new-stack.ensures.items (sym (stacked_none c.args.names.now c.args.nodes.now));
    }

pub loop-index-preserved : goal.loop-index-preserved
loop-index-preserved c =
    let names = c.args.names.now in
    let nodes = c.args.nodes.now in
    let index = c.loop-index.index - 1 in
    let old = c.loop-index.stack.items in
    let kept = c.loop-index.invariant in
    let next : index + 1 ≡ c.loop-index.index = omega (arith, c.loop-index-test.true) in
    let below : index < length nodes = omega (arith, c.loop-index-test.true, kept.within) in
    let makes = c.in_ok-node.ensures
    ∙ ap (λ n. made_of (flat_node_view names n) (stack_view old)) c.index-nodes-index.is in
    record {
      within = omega (arith, kept.within);
      stack = stacked_more names nodes index c.index-nodes-index.result old
          c.made_node.new.stack.items c.push.new.self.items c.in_ok-node.node below
          (rw next kept.stack) makes c.in_ok-push.ensures.items;
    }
