use Rattle.std.proofs.{Common.{refl}, lemmas.Result.{on_ok_weaker}}
use Rattle.html_flow_lists.{proofs.LastItems.{changed_is}, specs.Notes.{back_items, with_longer_line}}
use Rattle.html_flow_lists.proofs.notes.push_in_last_line.Goals as goal

pub returns-in-Some : goal.returns-in-Some
returns-in-Some c =
    let found = c.in-Some.ensures.item in
    on_ok_weaker c.push_in_line.result
    (changed_is c.args.items.now _ refl found.3.0 c.in-Some.last.now found.1
    (with_longer_line (back_items c.args.number c.args.span.0)) c.push_in_line.new.last)
    c.push_in_line.ensures
