use Rattle.std.proofs.{Common.{refl, string_bytes}, lemmas.Str.{IsUtf8-string_bytes}}
use Rattle.html_values_css.{proofs.Emitting.{pushed}, specs.Writer.{writer_state}}
use Rattle.html_values_css.proofs.writer.CssWriter.write.Goals as goal

pub returns : goal.returns
returns g c =
    let seen = writer_state in
    pushed _ c.push_str.result (seen c.args.self.now)
    (seen record {
      text = c.push_str.new.self;
      sink = c.args.self.now.sink;
      failed =
          c.args.self.now.failed;
    })
    (string_bytes c.args.self.now.text) (string_bytes c.push_str.new.self) c.args.text.now
    (IsUtf8-string_bytes c.args.self.now.text) refl refl c.push_str.ensures.bytes refl refl
