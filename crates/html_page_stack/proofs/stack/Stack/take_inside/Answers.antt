use Rattle.std.proofs.Common.{◌++◌, drop, take, sym, ap, ◌∙◌}
use Rattle.html_page_stack.{proofs.Adopting.{taken_next}, specs.PageViews.{stack_of}}
use Rattle.html_page_stack.proofs.stack.Stack.take_inside.Goals as goal

pub loop-taken-preserved : goal.loop-taken-preserved
loop-taken-preserved c =
    let os = stack_of c.args.self.now in
    let k = c.loop-taken.taken in
    let next = taken_next k os in
    let before = c.loop-taken.invariant in
    record {
      inside = c.in_ok-take_current.ensures.inside
          ∙ (ap (λ l. l ++ take 1 (stack_of c.loop-taken.self)) before.inside
          ∙ (ap (λ l. take k os ++ take 1 l) before.left ∙ sym next.0));
      left = c.in_ok-take_current.ensures.left ∙ (ap (drop 1) before.left ∙ sym next.1);
    }
