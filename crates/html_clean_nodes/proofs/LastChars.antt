-- The last byte of a text is a space or a line feed just where its last character is.
use Rattle.std.{proofs.Common.{◌≡◌, ℕ, ◌-◌, List, length, ◌==◌, chars, IsUtf8, arith}, specs.Prelude.{slice_index}}
use Rattle.html_names_core.proofs.EndChars.{last_chars}

pub space_by_bytes : (bs : List ℕ) → IsUtf8 bs
    → (slice_index bs (length bs - 1) == 32)
    ≡ (slice_index (chars bs) (length (chars bs) - 1) == 32)
space_by_bytes = last_chars 32 (omega arith)

pub line_feed_by_bytes : (bs : List ℕ) → IsUtf8 bs
    → (slice_index bs (length bs - 1) == 10)
    ≡ (slice_index (chars bs) (length (chars bs) - 1) == 10)
line_feed_by_bytes = last_chars 10 (omega arith)
