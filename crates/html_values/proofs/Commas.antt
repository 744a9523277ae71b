-- The first and the last byte of a text are a comma just where its first and last characters are.
use Rattle.std.{proofs.Common.{◌≡◌, ℕ, ◌-◌, List, length, ◌==◌, chars, IsUtf8, arith}, specs.Prelude.{slice_index}}
use Rattle.html_names_core.proofs.EndChars.{first_chars, last_chars}

pub first_comma : (bs : List ℕ) → IsUtf8 bs
    → (slice_index bs 0 == 44) ≡ (slice_index (chars bs) 0 == 44)
first_comma = first_chars 44 (omega arith)

pub last_comma : (bs : List ℕ) → IsUtf8 bs
    → (slice_index bs (length bs - 1) == 44)
    ≡ (slice_index (chars bs) (length (chars bs) - 1) == 44)
last_comma = last_chars 44 (omega arith)
