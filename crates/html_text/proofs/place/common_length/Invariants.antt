use Rattle.std.{proofs.Common.{◌≡◌, ◌+◌, ◌≤◌, IsUtf8, chars, eqb, length}, specs.List.{common_prefix_len}, specs.Str.Iter.{chars_rest}}
use Rattle.html_text.proofs.place.common_length.Given as goal

abbrev pub invariant-loop-expected : goal.invariant-loop-expected
invariant-loop-expected l =
    record {
      word_utf8 : IsUtf8 (chars_rest l.expected-iterator);
      text_utf8 : IsUtf8 (chars_rest l.left);
      same : l.count + common_prefix_len eqb (chars (chars_rest l.expected-iterator))
          (chars (chars_rest l.left)) ≡ common_prefix_len eqb (chars l.word) (chars l.text);
      few : l.count + length (chars_rest l.left) ≤ length l.text;
    }
