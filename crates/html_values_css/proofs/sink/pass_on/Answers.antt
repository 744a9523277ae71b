use Rattle.std.proofs.Common.{◌≡◌, ◌+◌, ◌∷◌, drop, get_or, Ok, inr, sym, subst, add-one, drop-cons}
use Rattle.html_values_css.specs.{Sink.{TakesWarning, Given, Interrupted}, declared.sink.Warning.TheVariants.{Gradient}}
use Rattle.html_values_css.proofs.sink.pass_on.Goals as goal

pub loop-warning-preserved : goal.loop-warning-preserved
loop-warning-preserved g c =
    let takes = TakesWarning g.S.WarningSink.warnings g.S.WarningSink.borrow g.S.WarningSink.emit_gives in
    let ws = c.args.warnings.now in
    let i = c.loop-warning.warning-index in
    let first : get_or ws i Gradient ∷ drop (i + 1) ws ≡ drop i ws =
    rw add-one (sym (drop-cons ws i Gradient c.loop-warning-test.true)) in
    let took : takes c.loop-warning.sink (get_or ws i Gradient) (Ok tt) c.emit.new.self = record {
      gives = c.in_ok-emit.ensures.gives;
      adds = c.in_ok-emit.ensures.adds;
      same_borrow = c.in_ok-emit.ensures.same_borrow;
    } in
    record {
      given = λ new later. c.loop-warning.invariant.given new
          (subst (λ list. Given takes c.loop-warning.sink list new) first
          (c.emit.new.self, took, later));
      interrupted = λ new later. c.loop-warning.invariant.interrupted new
          (subst (λ list. Interrupted takes c.loop-warning.sink list new) first
          (inr (inr (c.emit.new.self, took, later))));
    }
