use Rattle.std.proofs.{Common.{string_bytes, []}, lemmas.Str.{IsUtf8-had, IsUtf8-string_bytes}}
use Rattle.html_values_css.{proofs.Places.{kept_front, kept_within, emits_whole}, specs.Sums.{sum_end}, specs.Writer.{writer_state}}
use Rattle.html_values_css.proofs.calc.Calc.finish.Goals as goal

pub invariant_of-self : goal.invariant_of-self
invariant_of-self g c =
    let b = string_bytes c.args.self.out.now.text in
    let d = string_bytes c.write_ascii.new.self.text in
    let u = IsUtf8-string_bytes c.args.self.out.now.text in
    let v = IsUtf8-string_bytes c.write_ascii.new.self.text in
    record {
      within = kept_within c.args.self.start b d c.args.self.within u v c.write_ascii.ensures.kept;
      seam = rw (kept_front c.args.self.start b d c.args.self.within u v c.write_ascii.ensures.kept)
          c.args.self.seam;
    }

pub returns-clause-whole : goal.returns-clause-whole
returns-clause-whole g c =
    let seen = writer_state in
    emits_whole c.write_ascii.result c.args.self.start (string_bytes c.args.self.out.now.text)
    (seen c.args.self.out.now) (seen c.write_ascii.new.self) (sum_end c.args.self.parts) []
    (IsUtf8-had _ c.args.self.seam) (rw (← c.closing-closing.ensures) c.write_ascii.ensures)
