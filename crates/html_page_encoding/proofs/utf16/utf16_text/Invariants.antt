use Rattle.std.proofs.Common.{◌≡◌, ◌-◌, ◌≤◌, length}
use Rattle.html_page_encoding.proofs.Utf16Steps.{continued}
use Rattle.html_page_encoding.specs.Decoded.{utf16_from}
use Rattle.html_page_encoding.proofs.utf16.utf16_text.Given as goal

abbrev pub invariant-loop-rest : goal.invariant-loop-rest
invariant-loop-rest l = record {
  within : length l.rest ≤ length l.bytes;
  same : continued l.text (utf16_from l.big (length l.bytes - length l.rest) l.rest)
      ≡ utf16_from l.big 0 l.bytes;
}

abbrev pub decreases-loop-rest : goal.decreases-loop-rest
decreases-loop-rest l = length l.rest
