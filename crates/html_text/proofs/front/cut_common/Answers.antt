use Rattle.std.proofs.Common.{◌≡◌, refl, subst, sym}
use Rattle.html_text.proofs.Fronts.{ascii_byte, ascii_none, ascii_stops, by_table, cuts, common_small}
use Rattle.html_text.specs.{Fronts.{StopsBetween, has_byte, is_common}, declared.front.TheConstants.{FRONTS}}
use Rattle.html_text.proofs.front.cut_common.Goals as goal

by_bit : has_byte FRONTS 1 ≡ ascii_byte is_common
unfolding is_common
by_bit = by_table FRONTS 1 (ascii_byte is_common) refl refl refl (ascii_none is_common)

pub split_front-requires : goal.split_front-requires
split_front-requires c = subst StopsBetween (sym by_bit) (ascii_stops is_common)

pub returns : goal.returns
returns c = cuts is_common (has_byte FRONTS 1) by_bit common_small _ _ _ c.split_front.ensures
