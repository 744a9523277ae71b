use Rattle.html_flow_convert.proofs.Bodies.{with_last_item_view}
use Rattle.html_flow_convert.proofs.item.HtmlElem.with_item.Goals as goal

pub returns-in-Ok-clause-ok : goal.returns-in-Ok-clause-ok
returns-in-Ok-clause-ok c =
    with_last_item_view c.args.self c.in-Some.items c.push_compact.new.list c.args.item c.in-Some.is
    c.in-Ok.ensures.ok
