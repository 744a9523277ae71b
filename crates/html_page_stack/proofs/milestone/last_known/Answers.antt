use Rattle.std.proofs.Common.{◌-◌, arith, length}
use Rattle.html_page_stack.proofs.Milestones.{known_before}
use Rattle.html_page_stack.proofs.milestone.last_known.Goals as goal

pub returns-in-Some-clause-known : goal.returns-in-Some-clause-known
returns-in-Some-clause-known c =
    let es = c.args.elements.now in
    known_before es (length es - 64) _ c.in-Some.milestone c.requires
    (omega (arith, c.if-count-lt-SPACING.false)) c.in-Some.is
