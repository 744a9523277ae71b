-- What holds of each element of a list.
use Rattle.std.proofs.Common.{ℕ, zero, suc, drop, List, [], ◌∷◌, ◌++◌, map}

abbrev pub Each : {X : Type 0} → (X → Type 0) → List X → Type 0
Each P [] = Unit {0}
Each P (x ∷ xs) = P x × Each P xs

pub Each-append : {X : Type 0} (P : X → Type 0) (xs ys : List X) → Each P xs → Each P ys →
    Each P (xs ++ ys)
Each-append P [] ys r s = s
Each-append P (x ∷ xs) ys r s = (r.0, Each-append P xs ys r.1 s)

pub Each-map : {X Y : Type 0} (P : X → Type 0) (Q : Y → Type 0) (f : X → Y) →
    ((x : X) → P x → Q (f x)) → (xs : List X) → Each P xs → Each Q (map f xs)
Each-map P Q f h [] r = tt
Each-map P Q f h (x ∷ xs) r = (h x r.0, Each-map P Q f h xs r.1)

pub Each-weaker : {X : Type 0} (P Q : X → Type 0) → ((x : X) → P x → Q x) → (xs : List X) →
    Each P xs → Each Q xs
Each-weaker P Q h [] r = tt
Each-weaker P Q h (x ∷ xs) r = (h x r.0, Each-weaker P Q h xs r.1)

pub Each-drop : {X : Type 0} (P : X → Type 0) (k : ℕ) (xs : List X) → Each P xs → Each P (drop k xs)
Each-drop P zero xs r = r
Each-drop P (suc k) [] r = tt
Each-drop P (suc k) (x ∷ xs) r = Each-drop P k xs r.1
