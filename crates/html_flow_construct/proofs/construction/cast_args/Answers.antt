use Rattle.std.proofs.{Common.{rules, ◌≡◌, ◌<◌, ap, [], length, drop, arith}, lemmas.List.{drop_all}}
use Rattle.html_flow_construct.{proofs.JoinedFaults.{joined-found}, specs.Construct.{args_view, entries_view, faults}}
use Rattle.html_flow_construct.proofs.construction.cast_args.Goals as goal

pub returns-else-is_empty : goal.returns-else-is_empty
returns-else-is_empty c =
    let args = c.args.args.now in
    let wrong = c.loop-arg.wrong.items in
    let es = entries_view c.args.entries.now in
    let end : drop c.loop-arg.arg-index args ≡ [] =
    drop_all c.loop-arg.arg-index args (omega (arith, c.loop-arg-test.false)) in
    let some : 0 < length wrong = search rules in
    let none = ap (λ l. faults es (args_view l)) end in
    let joined = joined-found wrong _ _ some none c.loop-arg.invariant.refused in
    record { made = tt; clean = tt; fault = ([], joined) }
