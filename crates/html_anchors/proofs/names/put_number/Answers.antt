use Rattle.html_anchors.proofs.NumberedNames.{counted_more}
use Rattle.html_anchors.proofs.names.put_number.Goals as goal

pub returns : goal.returns
returns c = λ used was so.
    counted_more used c.args.next.now c.insert.new.self c.args.label c.args.number was so
    c.in_ok-insert.ensures.updates
