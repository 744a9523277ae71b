-- Every reader has some input.
use Rattle.std.proofs.Common.{ℕ, List, [], Option, None, Some, refl}
use Rattle.typst_html_run.specs.Outputs.{IsAll}

pub some_input : (remaining : Option (List ℕ)) → (input : List ℕ) × IsAll input remaining
some_input None = ([], tt)
some_input (Some bytes) = (bytes, refl)
