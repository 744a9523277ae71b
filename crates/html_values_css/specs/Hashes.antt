-- Equal properties have equal hashes.
use Rattle.std.{proofs.Common.{ap}, specs.Prelude.{◌≡◌, List, true}}
use Rattle.html_names_core.specs.{Equal.{same, same_decides, pairs_discrete}, Hashes.{pairs_writes}, Texts.{TextPair}}

pub equal_fed : (x y : List TextPair) → same (λ p. p) pairs_discrete x y ≡ true → pairs_writes x
    ≡ pairs_writes y
equal_fed x y h = ap pairs_writes ((same_decides (λ p. p) pairs_discrete x y).0 h)
