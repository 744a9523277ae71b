use Rattle.std.proofs.{Common.{rules, [], ◌∷◌}, lemmas.Result.{err_from_is_err_and}}
use Rattle.html_values_css.proofs.Summing.{begun, going, done, broken, never_warns}
use Rattle.html_values_css.specs.{Quantities.{ratio_text, em_text, abs_text}, Sums.{quantity_part, rel_text}}
use Rattle.html_values_css.specs.Writer.{writer_state, text_of}
use Rattle.html_values_css.proofs.length.RelToCss.emit.Goals as goal

pub returns-in_err-sum-3 : goal.returns-in_err-sum-3
returns-in_err-sum-3 g c =
    let r = c.args.self.now in
    let ratio = quantity_part ratio_text r.rel in
    let em = quantity_part em_text r.abs.em in
    let abs = quantity_part abs_text r.abs.abs in
    let zero = begun (writer_state c.args.out.now) (ratio ∷ em ∷ abs ∷ []) _ _ _ c.calc-sum.ensures.before
    c.calc-sum.ensures.nothing c.calc-sum.ensures.parts in
    let one = going ratio zero c.in_ok-sum.was c.in_ok-sum.ensures.before c.in_ok-sum.ensures.parts
    c.sum.ensures.adds (never_warns _ ratio_text r.rel) in
    let two = going em one c.in_ok-sum-2.was c.in_ok-sum-2.ensures.before
    c.in_ok-sum-2.ensures.parts c.sum-2.ensures.adds (never_warns _ em_text r.abs.em) in
    let gone = err_from_is_err_and c.from_residual-in_err-sum-3.result
    c.from_residual-in_err-sum-3.ensures.1 in
    let whole = broken abs (rel_text r.rel r.abs.em r.abs.abs) (text_of c.sum-3.new.self.out.now)
    two c.in_err-sum-3.was gone.1 c.sum-3.ensures.before c.sum-3.ensures.begins
    c.sum-3.ensures.adds (never_warns _ abs_text r.abs.abs) in
    search (rules, whole)

pub returns : goal.returns
returns g c =
    let r = c.args.self.now in
    let ratio = quantity_part ratio_text r.rel in
    let em = quantity_part em_text r.abs.em in
    let abs = quantity_part abs_text r.abs.abs in
    let zero = begun (writer_state c.args.out.now) (ratio ∷ em ∷ abs ∷ []) _ _ _ c.calc-sum.ensures.before
    c.calc-sum.ensures.nothing c.calc-sum.ensures.parts in
    let one = going ratio zero c.in_ok-sum.was c.in_ok-sum.ensures.before c.in_ok-sum.ensures.parts
    c.sum.ensures.adds (never_warns _ ratio_text r.rel) in
    let two = going em one c.in_ok-sum-2.was c.in_ok-sum-2.ensures.before
    c.in_ok-sum-2.ensures.parts c.sum-2.ensures.adds (never_warns _ em_text r.abs.em) in
    let three = going abs two c.in_ok-sum-3.was c.in_ok-sum-3.ensures.before
    c.in_ok-sum-3.ensures.parts c.sum-3.ensures.adds (never_warns _ abs_text r.abs.abs) in
    let whole = done three c.finish.ensures.whole in
    search (rules, whole)
