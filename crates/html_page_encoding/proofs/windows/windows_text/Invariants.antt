use Rattle.std.proofs.Common.{◌≡◌, map, take}
use Rattle.html_page_encoding.specs.Windows.{windows_char}
use Rattle.html_page_encoding.proofs.windows.windows_text.Given as goal

abbrev pub invariant-loop-byte : goal.invariant-loop-byte
invariant-loop-byte l = l.text ≡ map windows_char (take l.byte-index l.bytes)
