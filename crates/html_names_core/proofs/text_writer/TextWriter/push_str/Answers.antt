use Rattle.std.proofs.{Common.{ap, ◌∙◌, ◌++◌, chars}, lemmas.Str.{IsUtf8-string_bytes}}
use Rattle.html_names_core.proofs.Texts.{chars_add}
use Rattle.html_names_core.proofs.text_writer.TextWriter.push_str.Goals as goal

pub returns : goal.returns
returns c = record {
  added = chars_add _ _ c.args.text.now (IsUtf8-string_bytes c.self.inside.text)
      c.in_ok-push_str.ensures.bytes
      ∙ ap (λ l. l ++ chars c.args.text.now) c.self.view_is;
  kept = tt;
}
