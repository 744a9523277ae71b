use Rattle.std.proofs.Common.{◌≡◌, ap, ◌∙◌, chars, string_bytes, rules}
use Rattle.html_values_css.{proofs.Colors.{color_chars}, specs.Colors.{color_text}}
use Rattle.html_values_css.proofs.paint.Rgba.hex.Goals as goal

pub returns : goal.returns
returns c =
    let bytes : string_bytes c.push_alpha.new.text ≡ color_text c.args.self = search rules in
    ap chars bytes ∙ color_chars c.args.self c.push_byte.ensures.fits c.push_byte-2.ensures.fits
    c.push_byte-3.ensures.fits c.push_alpha.ensures.fits
