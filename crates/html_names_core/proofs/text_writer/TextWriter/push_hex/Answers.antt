use Rattle.std.{proofs.Common.{ap, ◌∙◌, ◌++◌, chars, false}, proofs.lemmas.Str.{IsUtf8-string_bytes}, specs.Fmt.{digits}}
use Rattle.html_names_core.proofs.{Digits.{chars-digits}, Texts.{chars_add}}
use Rattle.html_names_core.proofs.text_writer.TextWriter.push_hex.Goals as goal

pub returns : goal.returns
returns c =
    let ds = digits 16 false c.args.n in
    let old = IsUtf8-string_bytes c.self.inside.text in
    chars_add _ _ ds old (rw c.in_radix.ensures at c.in_ok-write.ensures.bytes)
    ∙ ap (λ l. l ++ chars ds) c.self.view_is
    ∙ ap (λ l. c.args.self.now ++ l) (chars-digits c.args.n c.ranges.n.fits)
