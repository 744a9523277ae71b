-- Indents and lines that grow at their end.
use Rattle.std.proofs.Common.{◌≡◌, ℕ, List, [], ◌∷◌, ◌++◌, Bool, true, false, ◌||◌, refl, ap, append_assoc, append-nil}
use Rattle.std.{proofs.Math.Bool.{and_comm}, specs.Prelude.{if◌then◌else◌}}
use Rattle.typst_html_encode.specs.Layout.{by_lines}

abbrev pub begun : List (List ℕ) → Bool
begun [] = false
begun (l ∷ ls) = true

pub by_lines_more : (b : Bool) (i : List ℕ) (ls : List (List ℕ)) (l : List ℕ) →
    by_lines b i (ls ++ l ∷ []) ≡ by_lines b i ls ++ ((if b || begun ls then i else []) ++ l)
by_lines_more true i [] l = ap (λ s. i ++ s) (append-nil l)
by_lines_more false i [] l = append-nil l
by_lines_more true i (x ∷ xs) l = rw (by_lines_more true i xs l) (simp append_assoc)
by_lines_more false i (x ∷ xs) l = rw (by_lines_more true i xs l) (simp append_assoc)

pub begun_more : (b : Bool) (ls : List (List ℕ)) (l : List ℕ) → true ≡ (b || begun (ls ++ l ∷ []))
begun_more true ls l = refl
begun_more false [] l = refl
begun_more false (x ∷ xs) l = refl

pub last_first : (a b c d : Bool) → (d || (a || (b || c))) ≡ (a || (b || (c || d)))
last_first true b c true = refl
last_first true b c false = refl
last_first false true c true = refl
last_first false true c false = refl
last_first false false true true = refl
last_first false false true false = refl
last_first false false false true = refl
last_first false false false false = refl

-- two tests in either order
pub ruleset either_order = (and_comm)
