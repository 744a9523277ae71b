-- Lists whose elements are taken from the end, the last first.
use Rattle.std.proofs.Common.{◌≡◌, ℕ, ◌+◌, ◌-◌, ◌<◌, List, [], ◌∷◌, ◌++◌, get_or, length, reverse, take, refl, ap, sym, ◌∙◌, arith}
use Rattle.std.proofs.lemmas.List.{reverse-append, take_all, take_more}
use denote.Param.Weighed.{most, most-append}

pub last_apart : {X : Type 0} (all : List X) (n : ℕ) (x : X) → n ≡ length all → 0 < length all →
    x ≡ get_or all (n - 1) x → all ≡ take (n - 1) all ++ x ∷ []
last_apart all n x counted some is =
    sym (take_all (n - 1 + 1) all (omega arith))
    ∙ (take_more all (n - 1) x (omega arith)
    ∙ ap (λ y. take (n - 1) all ++ y ∷ []) (sym is))

pub next_reversed : {X : Type 0} (all left : List X) (x : X) → all ≡ left ++ x ∷ [] →
    reverse all ≡ x ∷ reverse left
next_reversed all left x is = ap reverse is ∙ reverse-append left (x ∷ [])

pub most_reversed : {X : Type 0} (size : X → ℕ) (xs : List X) →
    most size (reverse xs) ≡ most size xs
most_reversed size [] = refl
most_reversed size (x ∷ xs) =
    let others = most_reversed size xs in
    let joined = ap (most size) (reverse-append (x ∷ []) xs)
    ∙ most-append size (reverse xs) (x ∷ []) in
    omega (arith, joined, others)
