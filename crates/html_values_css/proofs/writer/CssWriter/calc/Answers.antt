use Rattle.std.proofs.Common.{ap, ℕ, List, length, string_bytes}
use Rattle.html_values_css.{proofs.Places.{nothing_after}, specs.Writer.{writer_state}}
use Rattle.html_values_css.proofs.writer.CssWriter.calc.Goals as goal

pub returns-clause-nothing : goal.returns-clause-nothing
returns-clause-nothing g c =
    let seen = writer_state c.args.self.now in
    ap (λ (t : List ℕ). record seen { text = t })
    (nothing_after (string_bytes c.args.self.now.text) (length c.as_str-start.result.now)
    (ap length c.as_str-start.ensures.value))
