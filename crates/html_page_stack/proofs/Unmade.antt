-- The names of elements that were too deep to be made, of which the program holds the last at the end.
use Rattle.std.proofs.{Common.{◌≡◌, ℕ, List, [], ◌∷◌, ◌++◌, reverse}, lemmas.List.{reverse-append}}

pub added_last : (names : List (List ℕ)) (name : List ℕ) →
    reverse (names ++ name ∷ []) ≡ name ∷ reverse names
added_last names name = reverse-append names (name ∷ [])
