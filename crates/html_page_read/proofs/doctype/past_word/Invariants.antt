use Rattle.std.proofs.Common.{◌≡◌, IsUtf8, chars}
use Rattle.std.specs.Str.Iter.{chars_rest}
use Rattle.html_page_read.specs.DocumentTypes.{past_word}
use Rattle.html_page_read.proofs.doctype.past_word.Given as goal

abbrev pub invariant-loop-expected : goal.invariant-loop-expected
invariant-loop-expected l = record {
  word_utf8 : IsUtf8 (chars_rest l.expected-iterator);
  text_utf8 : IsUtf8 (chars_rest l.left);
  same : past_word (chars (chars_rest l.expected-iterator)) (chars (chars_rest l.left))
      ≡ past_word (chars l.fn.word) (chars l.fn.text);
}
