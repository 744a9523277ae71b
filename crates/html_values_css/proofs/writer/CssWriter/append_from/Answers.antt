use Rattle.std.proofs.{Common.{string_bytes}, lemmas.Str.{IsUtf8-string_bytes, IsUtf8-had}}
use Rattle.html_values_css.{proofs.Places.{kept_front, kept_within, emits_from}, specs.Writer.{writer_state}}
use Rattle.html_values_css.proofs.writer.CssWriter.append_from.Goals as goal

pub returns-clause-keeps : goal.returns-clause-keeps
returns-clause-keeps g c =
    let b = string_bytes c.args.self.now.text in
    let d = string_bytes c.append_part.new.self.text in
    let u = IsUtf8-string_bytes c.args.self.now.text in
    let v = IsUtf8-string_bytes c.append_part.new.self.text in
    record {
      within = kept_within c.args.start b d c.requires.within u v c.append_part.ensures.kept;
      front = kept_front c.args.start b d c.requires.within u v c.append_part.ensures.kept;
    }

pub returns-clause-emits : goal.returns-clause-emits
returns-clause-emits g c =
    let b = string_bytes c.args.self.now.text in
    let d = string_bytes c.append_part.new.self.text in
    let u = IsUtf8-string_bytes c.args.self.now.text in
    let v = IsUtf8-string_bytes c.append_part.new.self.text in
    let seen = writer_state in
    emits_from c.args.start b d (IsUtf8-had _ c.requires.seam)
    (kept_front c.args.start b d c.requires.within u v c.append_part.ensures.kept)
    c.append_part.result (seen c.args.self.now) (seen c.append_part.new.self) _ _
    c.append_part.ensures
