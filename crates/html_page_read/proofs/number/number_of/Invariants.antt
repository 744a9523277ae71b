use Rattle.std.proofs.Common.{◌≡◌, ◌≤◌, IsUtf8, chars, min}
use Rattle.std.specs.Str.{Iter.{chars_rest}, Parse.{digits_value, digits_value_after}}
use Rattle.html_page_read.proofs.number.number_of.Given as goal

abbrev pub invariant-loop-c : goal.invariant-loop-c
invariant-loop-c l =
    record {
      utf8 : IsUtf8 (chars_rest l.c-iterator);
      few : l.number ≤ 0x11_0000;
      same : min (digits_value_after l.base l.number (chars (chars_rest l.c-iterator))) 0x11_0000
          ≡ min (digits_value l.base (chars l.digits)) 0x11_0000;
    }
