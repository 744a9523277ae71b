use Rattle.std.proofs.{Common.{string_bytes}, lemmas.Str.{IsUtf8-had}}
use Rattle.html_values_css.proofs.Places.{begins_before}
use Rattle.html_values_css.proofs.calc.Calc.sum.Goals as goal

pub invariant_of-self : goal.invariant_of-self
invariant_of-self g c = record {
  within = c.add_part.ensures.keeps.within;
  seam =
      rw c.add_part.ensures.keeps.front c.args.self.now.seam;
}

pub invariant_of-self-2 : goal.invariant_of-self-2
invariant_of-self-2 g c = record {
  within = c.add_part.ensures.keeps.within;
  seam =
      rw c.add_part.ensures.keeps.front c.args.self.now.seam;
}

pub returns-then-is_zero-clause-begins : goal.returns-then-is_zero-clause-begins
returns-then-is_zero-clause-begins g c = begins_before c.args.self.now.start
    (string_bytes c.args.self.now.out.now.text) (IsUtf8-had _ c.args.self.now.seam)

pub returns-in_err-add_part-clause-begins : goal.returns-in_err-add_part-clause-begins
returns-in_err-add_part-clause-begins g c =
    begins_before c.args.self.now.start (string_bytes c.add_part.new.self.text)
    (IsUtf8-had _ (rw c.add_part.ensures.keeps.front c.args.self.now.seam))

pub returns-clause-begins : goal.returns-clause-begins
returns-clause-begins g c =
    begins_before c.args.self.now.start (string_bytes c.add_part.new.self.text)
    (IsUtf8-had _ (rw c.add_part.ensures.keeps.front c.args.self.now.seam))
