use Rattle.std.proofs.Common.{◌≡◌, ◌+◌, drop, length}
use Rattle.typst_html_ffi.specs.LongTexts.{pieces_bytes}
use Rattle.typst_html_ffi.proofs.pieces.length_of.Given as goal

abbrev pub invariant-loop-piece : goal.invariant-loop-piece
invariant-loop-piece l =
    l.length + length (pieces_bytes (drop l.piece-index l.pieces)) ≡ length (pieces_bytes l.pieces)
