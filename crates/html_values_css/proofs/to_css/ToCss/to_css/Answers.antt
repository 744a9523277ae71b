use Rattle.std.proofs.{Common.{ap}, lemmas.Result.{err_from_is_err_and}}
use Rattle.html_values_css.{proofs.Giving.{given_on, refused_on, given_empty}, specs.Sink.{TakesWarning}}
use Rattle.html_values_css.proofs.to_css.ToCss.to_css.Goals as goal

pub returns-in_err-pass_on-clause-given : goal.returns-in_err-pass_on-clause-given
returns-in_err-pass_on-clause-given g c =
    let takes = TakesWarning g.S.WarningSink.warnings g.S.WarningSink.borrow g.S.WarningSink.emit_gives in
    let handed = given_empty _ c.new.result c.new-out.result.sink c.emit.new.out.sink _ _
    c.new.ensures.items
    (ap (λ seen. seen.sink) c.new-out.ensures) c.in_ok-emit.ensures.given c.deref.ensures.value in
    let refused = err_from_is_err_and c.from_residual-in_err-pass_on.result
    c.from_residual-in_err-pass_on.ensures.1 in
    refused_on takes _ _ _ _ _ _ handed refused.1 c.in_err-pass_on.ensures

pub returns-clause-given : goal.returns-clause-given
returns-clause-given g c =
    let takes = TakesWarning g.S.WarningSink.warnings g.S.WarningSink.borrow g.S.WarningSink.emit_gives in
    let handed = given_empty _ c.new.result c.new-out.result.sink c.emit.new.out.sink _ _
    c.new.ensures.items
    (ap (λ seen. seen.sink) c.new-out.ensures) c.in_ok-emit.ensures.given c.deref.ensures.value in
    given_on takes _ _ _ _ handed c.in_ok-pass_on.ensures
