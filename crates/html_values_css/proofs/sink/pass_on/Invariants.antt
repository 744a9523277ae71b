use Rattle.std.proofs.Common.{drop}
use Rattle.html_values_css.specs.Sink.{TakesWarning, Given, Interrupted}
use Rattle.html_values_css.proofs.sink.pass_on.Given as goal

abbrev pub invariant-loop-warning : goal.invariant-loop-warning
invariant-loop-warning g l =
    let takes = TakesWarning g.S.WarningSink.warnings g.S.WarningSink.borrow g.S.WarningSink.emit_gives in
    let left = drop l.warning-index l.warnings in
    record {
      given : (new : _) → Given takes l.sink left new → Given takes l.fn.sink l.warnings new;
      interrupted : (new : _) → Interrupted takes l.sink left new
          → Interrupted takes l.fn.sink l.warnings new;
    }
