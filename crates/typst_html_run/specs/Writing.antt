-- The effect of a call on a recorded writer.
use Rattle.std.specs.{Io.KnownBytes.{Appends}, Prelude.{◌≡◌, ℕ, List, take, Option, Result, MatchResult}}
use Rattle.typst_html_run.specs.declared.recorded.{LastCall.{LastCall}, WriteFailed.{WriteFailed}, LastCall.TheVariants.{Flushed, Failed}}

-- the known bytes grow by a beginning of these bytes
abbrev pub AppendsBeginning : (old new : Option (List ℕ)) → (bytes : List ℕ) → Type 0
AppendsBeginning old new bytes = (n : ℕ) × Appends old new (take n bytes)

-- all of the bytes were written and the last call was a flush that succeeded, or the last call
-- failed after a beginning of the bytes
abbrev pub WritesAll : Result (Unit {0}) WriteFailed → (bytes : List ℕ) →
    (old new : Option (List ℕ)) → LastCall → Type 0
WritesAll r bytes old new last = MatchResult r
    (λ _. Appends old new bytes × (last ≡ Flushed))
    (λ _. AppendsBeginning old new bytes × (last ≡ Failed))
