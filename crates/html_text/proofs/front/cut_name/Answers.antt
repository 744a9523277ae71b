use Rattle.std.proofs.Common.{◌≡◌, refl, subst, sym}
use Rattle.html_text.proofs.Fronts.{ascii_byte, ascii_none, ascii_stops, by_table, cuts, name_small}
use Rattle.html_text.specs.{Fronts.{StopsBetween, has_byte, is_name_char}, declared.front.TheConstants.{FRONTS}}
use Rattle.html_text.proofs.front.cut_name.Goals as goal

by_bit : has_byte FRONTS 4 ≡ ascii_byte is_name_char
by_bit = by_table FRONTS 4 (ascii_byte is_name_char) refl refl refl (ascii_none is_name_char)

pub split_front-requires : goal.split_front-requires
split_front-requires c = subst StopsBetween (sym by_bit) (ascii_stops is_name_char)

pub returns : goal.returns
returns c = cuts is_name_char (has_byte FRONTS 4) by_bit name_small _ _ _ c.split_front.ensures
