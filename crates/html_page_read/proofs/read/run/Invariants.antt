use Rattle.std.proofs.Common.{◌≡◌, ◌+◌, ◌≤◌, chars, length}
use denote.Text.{Utf8}
use denote.Shadow.{shadow}
use Rattle.html_page_read.specs.{PageReaderViews.{reader_of}, PageReading.{run}}
use Rattle.html_page_read.proofs.read.run.Given as goal

abbrev pub invariant-loop-past : goal.invariant-loop-past
invariant-loop-past l =
    record {
      is_text : shadow (Utf8 l.rest);
      same : run (reader_of l.reader) (chars l.rest)
          ≡ run (reader_of l.fn.reader) (chars l.fn.text);
      few : l.reader.reading.place + length l.rest
          ≤ l.fn.reader.reading.place + length l.fn.text;
    }

abbrev pub decreases-loop-past : goal.decreases-loop-past
decreases-loop-past l = length l.rest
