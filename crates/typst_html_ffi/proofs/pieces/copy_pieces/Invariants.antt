use Rattle.std.proofs.Common.{◌≡◌, ◌++◌, List, ℕ, drop, length}
use Rattle.typst_html_ffi.specs.LongTexts.{pieces_bytes}
use Rattle.typst_html_ffi.proofs.pieces.copy_pieces.Given as goal

-- what is written, and what is left to write
abbrev pub invariant-loop-piece : goal.invariant-loop-piece
invariant-loop-piece l = (written : List ℕ) × record {
  all : written ++ pieces_bytes (drop l.piece-index l.pieces) ≡ pieces_bytes l.pieces;
  end : l.end ≡ length written;
  output : l.output ≡ written ++ drop (length written) l.fn.output;
}
