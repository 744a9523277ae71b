use Rattle.std.proofs.Common.{rules, ◌≡◌, false}
use Rattle.html_dom_flat.{proofs.Stacking.{none_popped}, specs.Stacks.{is_top_before, stack_view}}
use Rattle.html_dom_flat.proofs.spelling.pop_before.Goals as goal

pub returns-then-not-is_top_before : goal.returns-then-not-is_top_before
returns-then-not-is_top_before c =
    let stack = stack_view c.args.stack.now.items in
    let test : is_top_before c.args.past stack ≡ false = search rules in
    none_popped c.args.past stack test
