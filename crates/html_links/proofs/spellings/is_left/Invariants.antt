use Rattle.std.{proofs.Common.{◌≡◌, chars}, specs.List.{list_any}, specs.Str.{IsUtf8}, specs.Str.Iter.{chars_rest}}
use Rattle.html_links.specs.Spellings.{is_in_fragment_set}
use Rattle.html_links.proofs.spellings.is_left.Given as goal

abbrev pub invariant-loop-c : goal.invariant-loop-c
invariant-loop-c l = record {
  utf8 : IsUtf8 (chars_rest l.c-iterator);
  agrees : list_any is_in_fragment_set (chars (chars_rest l.c-iterator))
      ≡ list_any is_in_fragment_set (chars l.fn.name);
}
