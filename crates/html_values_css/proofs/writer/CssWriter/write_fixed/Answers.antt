use Rattle.std.proofs.Common.{◌≡◌, rules, ap, ◌∙◌, chars, string_bytes}
use Rattle.html_values_css.{proofs.Digits.{fixed_chars}, specs.Quantities.{fixed_text}}
use Rattle.html_values_css.proofs.writer.CssWriter.write_fixed.Goals as goal

pub returns : goal.returns
returns g c =
    let bytes : string_bytes c.in_ok-text.text ≡ fixed_text c.args.decimals c.args.millionths =
    search rules in
    let same : chars c.as_str.result.now ≡ fixed_text c.args.decimals c.args.millionths =
    ap chars c.as_str.ensures.value ∙ ap chars bytes
    ∙ fixed_chars c.args.decimals c.args.millionths c.requires.quantity in
    rw (← same) c.write.ensures
