use Rattle.std.proofs.Common.{None, chars, length}
use denote.Text.{Utf8}
use denote.Shadow.{shadow}
use Rattle.typst_html_encode.specs.Reader.{Outside}
use Rattle.typst_html_read.{proofs.Stretches.{Goes, reading}, specs.ReaderViews.{reader_state}}
use Rattle.typst_html_read.proofs.read.read_root.Given as goal

abbrev pub invariant-loop-reader : goal.invariant-loop-reader
invariant-loop-reader l =
    record {
      is_text : shadow (Utf8 l.rest);
      goes : Goes l.limit (length (chars l.whole))
          (reading l.limit 15 (Outside None) (chars l.fn.text)) (reader_state l.reader)
          (chars l.rest);
    }

abbrev pub decreases-loop-reader : goal.decreases-loop-reader
decreases-loop-reader l = length (chars l.rest)
