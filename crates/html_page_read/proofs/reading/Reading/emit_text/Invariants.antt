use Rattle.std.{proofs.Common.{◌≡◌, IsUtf8, chars}, specs.Str.Iter.{chars_rest}}
use Rattle.html_page_read.specs.{PageReaderViews.{reading_of}, PageTokens.{chars_emitted}}
use Rattle.html_page_read.proofs.reading.Reading.emit_text.Given as goal

abbrev pub invariant-loop-c : goal.invariant-loop-c
invariant-loop-c l =
    record {
      utf8 : IsUtf8 (chars_rest l.c-iterator);
      same : chars_emitted (chars (chars_rest l.c-iterator)) (reading_of l.self)
          ≡ chars_emitted (chars l.text) (reading_of l.fn.self);
    }
