-- Lists that begin with another.
use Rattle.std.proofs.Common.{◌≡◌, List, [], ◌++◌, length, take, drop, sym, ap, ◌∙◌, append_assoc, append-nil}
use Rattle.std.proofs.{Math.Seq.{take-append_seam}, lemmas.List.{take-append-drop}}
use Rattle.html_values_css.specs.Sink.{StartsWith}

pub StartsWith-same : {A : Type 0} (xs ys : List A) → ys ≡ xs → StartsWith ys xs
StartsWith-same xs ys e = rw e (ap (take (length xs)) (sym (append-nil xs))
    ∙ take-append_seam xs [])

pub StartsWith-append : {A : Type 0} (xs ys : List A) → StartsWith (xs ++ ys) xs
StartsWith-append xs ys = take-append_seam xs ys

pub rest_of : {A : Type 0} (xs front : List A) → StartsWith xs front → xs ≡ front
    ++ drop (length front) xs
rest_of xs front h = sym (take-append-drop (length front) xs)
    ∙ ap (λ f. f ++ drop (length front) xs) h

pub StartsWith-trans : {A : Type 0} (zs ys xs : List A) → StartsWith zs ys → StartsWith ys xs
    → StartsWith zs xs
StartsWith-trans zs ys xs p q =
    let e : zs ≡ xs ++ (drop (length xs) ys ++ drop (length ys) zs) =
    rest_of zs ys p ∙ ap (λ f. f ++ drop (length ys) zs) (rest_of ys xs q)
    ∙ append_assoc xs (drop (length xs) ys) (drop (length ys) zs) in
    rw e (take-append_seam xs _)
