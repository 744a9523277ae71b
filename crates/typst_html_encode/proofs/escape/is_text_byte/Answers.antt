use Rattle.std.proofs.{Common.{not, eqb, get_or, refl, bit_and}, lemmas.Bool.{agree_below_at}}
use Rattle.html_names_core.specs.Characters.{is_text_char}
use Rattle.typst_html_encode.specs.declared.escape.TheConstants.{PLAIN}
use Rattle.typst_html_encode.proofs.escape.is_text_byte.Goals as goal

pub returns : goal.returns
returns c = agree_below_at (λ b. not (eqb (bit_and (get_or PLAIN b 0) 4) 0)) is_text_char 128
    c.args.byte refl c.requires
