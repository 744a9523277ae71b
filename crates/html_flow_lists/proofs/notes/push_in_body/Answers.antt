use Rattle.std.proofs.lemmas.Result.{on_ok_weaker}
use Rattle.html_flow_lists.{proofs.Lines.{longer_body_view}, specs.Notes.{back_items}}
use Rattle.html_flow_lists.proofs.notes.push_in_body.Goals as goal

pub returns-in-Some : goal.returns-in-Some
returns-in-Some c =
    on_ok_weaker c.push_link_to_mark.result
    (longer_body_view c.args.element.now c.in-Some.items c.push_link_to_mark.new.items
    (back_items c.args.number c.args.span.0) c.in-Some.is)
    c.push_link_to_mark.ensures
