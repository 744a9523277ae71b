use Rattle.std.proofs.Common.{rules, [], ◌∷◌}
use Rattle.html_values_css.proofs.Summing.{begun, going, done, never_warns}
use Rattle.html_values_css.specs.{Quantities.{em_text, abs_text}, Sums.{quantity_part}, Writer.{writer_state}}
use Rattle.html_values_css.proofs.length.LengthToCss.emit.Goals as goal

pub returns : goal.returns
returns g c =
    let em = quantity_part em_text c.args.self.now.em in
    let abs = quantity_part abs_text c.args.self.now.abs in
    let zero = begun (writer_state c.args.out.now) (em ∷ abs ∷ []) _ _ _ c.calc-sum.ensures.before
    c.calc-sum.ensures.nothing c.calc-sum.ensures.parts in
    let one = going em zero c.in_ok-sum.was c.in_ok-sum.ensures.before c.in_ok-sum.ensures.parts
    c.sum.ensures.adds (never_warns _ em_text c.args.self.now.em) in
    let two = going abs one c.in_ok-sum-2.was c.in_ok-sum-2.ensures.before
    c.in_ok-sum-2.ensures.parts c.sum-2.ensures.adds
    (never_warns _ abs_text c.args.self.now.abs) in
    let whole = done two c.finish.ensures.whole in
    search (rules, whole)
