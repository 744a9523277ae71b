use Rattle.std.proofs.Common.{ℕ, List, subst}
use Rattle.html_values_css.proofs.Places.{Adds-then, with_appended}
use Rattle.html_values_css.specs.{Calc.{written_from, part_of, with_opening}, Sink.{TakesWarning}, Sums.{part_warnings}, Writer.{SumsUp}}
use Rattle.html_values_css.proofs.writer.CssWriter.add_part.Goals as goal

pub open_sum-requires-clause-seam : goal.open_sum-requires-clause-seam
open_sum-requires-clause-seam g c = rw c.in_ok-append_from.ensures.keeps.front c.requires.seam

pub returns-clause-adds : goal.returns-clause-adds
returns-clause-adds g c =
    let takes = TakesWarning g.S.WarningSink.warnings g.S.WarningSink.borrow g.S.WarningSink.emit_gives in
    let part = part_of g.T.CalcPart.number g.T.ToCss.text g.T.ToCss.warnings g.T.CalcPart.opposite
    c.args.value.now in
    let old = written_from c.args.start c.args.self.now in
    let new = written_from c.args.start c.open_sum.new.self in
    let both = Adds-then c.open_sum.result old (written_from c.args.start c.append_from.new.self)
    new _ (with_opening c.args.parts) _
    c.in_ok-append_from.ensures.emits c.open_sum.ensures.adds in
    subst (λ (text : List ℕ). SumsUp takes c.open_sum.result old new text
    (part_warnings c.args.parts part)) (with_appended c.args.parts old.text part) both
