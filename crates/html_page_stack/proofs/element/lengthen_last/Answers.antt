use Rattle.std.proofs.Common.{arith, chars}
use Rattle.html_names_core.proofs.Held.{on_err}
use Rattle.html_page_stack.proofs.Children.{last_changed, last_kept}
use Rattle.html_page_stack.proofs.element.lengthen_last.Goals as goal

pub returns-in_ok-lengthen-clause-longer : goal.returns-in_ok-lengthen-clause-longer
returns-in_ok-lengthen-clause-longer c =
    let found = c.in-Some.ensures.item in
    last_changed c.args.nodes.now c.in-Some.last.now _ (omega (arith, found.3.0)) found.1 (chars c.args.more.now)
    c.lengthen.new.node c.in_ok-lengthen.ensures.longer

pub returns-in_err-lengthen-clause-kept : goal.returns-in_err-lengthen-clause-kept
returns-in_err-lengthen-clause-kept c =
    let found = c.in-Some.ensures.item in
    on_err c.from_residual.result _ (last_kept c.args.nodes.now c.in-Some.last.now _ (omega (arith, found.3.0)) found.1
    c.lengthen.new.node c.in_err-lengthen.ensures.kept)
