use Rattle.std.proofs.{Common.{◌≡◌, ℕ, ◌<◌, true, not, eqb, get_or, refl, bit_and}, lemmas.Bool.{agree_below, agree_below_at}}
use Rattle.typst_html_encode.specs.PlainStretches.{is_plain}
use Rattle.typst_html_encode.specs.declared.escape.Escaping.{Escaping}
use Rattle.typst_html_encode.specs.declared.escape.TheConstants.{PLAIN}
use Rattle.typst_html_encode.proofs.escape.is_plain_byte.Goals as goal

by_bit : {e given : Escaping} (bit byte : ℕ) → given ≡ e →
    agree_below (λ b. not (eqb (bit_and (get_or PLAIN b 0) bit) 0)) (is_plain e) 128 ≡ true →
    byte < 128 → not (eqb (bit_and (get_or PLAIN byte 0) bit) 0) ≡ is_plain given byte
by_bit {e} bit byte is agrees below =
    rw is (agree_below_at (λ b. not (eqb (bit_and (get_or PLAIN b 0) bit) 0)) (is_plain e) 128 byte
    agrees below)

pub returns-in-Text : goal.returns-in-Text
returns-in-Text c = by_bit 1 c.args.byte c.in-Text.is refl c.requires

pub returns-in-Value : goal.returns-in-Value
returns-in-Value c = by_bit 2 c.args.byte c.in-Value.is refl c.requires

pub returns-in-Raw : goal.returns-in-Raw
returns-in-Raw c = by_bit 4 c.args.byte c.in-Raw.is refl c.requires
