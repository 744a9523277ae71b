use Rattle.std.proofs.Common.{◌≡◌, string_bytes, rules}
use Rattle.html_values_css.{proofs.Places.{after_opening, opens}, specs.Calc.{written_from}, specs.Sums.{One}}
use Rattle.html_values_css.proofs.writer.CssWriter.open_sum.Goals as goal

pub returns-in_ok-insert-clause-adds : goal.returns-in_ok-insert-clause-adds
returns-in_ok-insert-clause-adds g c =
    let second : c.args.parts ≡ One = search rules in
    let seen = written_from c.args.start in
    opens c.args.parts (seen c.args.self.now) (seen c.insert.new.self) second
    (after_opening c.args.start (string_bytes c.args.self.now.text)
    (string_bytes c.insert.new.self.text) c.requires.within c.in_ok-insert.ensures.ok)
    c.in_ok-insert.ensures.failed c.in_ok-insert.ensures.sink
