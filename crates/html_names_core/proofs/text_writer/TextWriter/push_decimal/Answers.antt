use Rattle.std.proofs.{Common.{ap, ◌∙◌, ◌++◌, chars}, lemmas.Fmt.{IsAscii-decimal}, lemmas.Str.{IsUtf8-string_bytes, chars-IsAscii}}
use Rattle.std.specs.Fmt.{decimal}
use Rattle.html_names_core.proofs.Texts.{chars_add}
use Rattle.html_names_core.proofs.text_writer.TextWriter.push_decimal.Goals as goal

pub returns : goal.returns
returns c =
    let ds = decimal c.args.n in
    chars_add _ _ ds (IsUtf8-string_bytes c.self.inside.text) c.in_ok-write.ensures.bytes
    ∙ ap (λ l. l ++ chars ds) c.self.view_is
    ∙ ap (λ l. c.args.self.now ++ l) (chars-IsAscii ds (IsAscii-decimal c.args.n c.ranges.n.fits))
