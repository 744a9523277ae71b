use Rattle.std.proofs.Common.{◌≡◌, take}
use Rattle.html_page_encoding.proofs.windows.text_of_bytes.Given as goal

abbrev pub invariant-loop-byte : goal.invariant-loop-byte
invariant-loop-byte l = l.text ≡ take l.byte-index l.bytes
