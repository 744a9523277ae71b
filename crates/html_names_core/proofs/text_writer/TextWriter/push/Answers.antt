use Rattle.std.proofs.{Common.{ap, ◌∙◌, ◌++◌, ◌∷◌, []}, lemmas.Str.{IsUtf8-string_bytes}}
use Rattle.html_names_core.proofs.Texts.{chars_push}
use Rattle.html_names_core.proofs.text_writer.TextWriter.push.Goals as goal

pub returns : goal.returns
returns c = record {
  added = chars_push _ _ c.args.c (IsUtf8-string_bytes c.self.inside.text) c.ranges.c.0
      c.in_ok-push.ensures.bytes
      ∙ ap (λ l. l ++ c.args.c ∷ []) c.self.view_is;
  kept = tt;
}
