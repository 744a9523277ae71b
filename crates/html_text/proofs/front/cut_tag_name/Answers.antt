use Rattle.std.proofs.Common.{◌≡◌, refl, subst, sym}
use Rattle.html_names_core.specs.Characters.{is_tag_char}
use Rattle.html_text.{proofs.Fronts.{ascii_byte, ascii_none, ascii_stops, by_table, cuts, tag_small}, specs.Fronts.{StopsBetween, has_byte}}
use Rattle.html_text.specs.declared.front.TheConstants.{FRONTS}
use Rattle.html_text.proofs.front.cut_tag_name.Goals as goal

by_bit : has_byte FRONTS 2 ≡ ascii_byte is_tag_char
by_bit = by_table FRONTS 2 (ascii_byte is_tag_char) refl refl refl (ascii_none is_tag_char)

pub split_front-requires : goal.split_front-requires
split_front-requires c = subst StopsBetween (sym by_bit) (ascii_stops is_tag_char)

pub returns : goal.returns
returns c = cuts is_tag_char (has_byte FRONTS 2) by_bit tag_small _ _ _ c.split_front.ensures
