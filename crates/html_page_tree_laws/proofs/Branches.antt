-- A choice by a test.
use Rattle.std.{proofs.Common.{◌≡◌, Bool, true, false, ◌||◌, refl}, specs.Prelude.{if◌then◌else◌}}

-- what holds of both holds of the chosen
pub either_way : {A B : Type 0} (f : A → B) (b : Bool) {x y : A} {r : B} →
    f x ≡ r → f y ≡ r → f (if b then x else y) ≡ r
either_way f true h k = h
either_way f false h k = k

pub either_of : {A : Type 0} (P : A → Type 0) (b : Bool) {x y : A} → P x → P y →
    P (if b then x else y)
either_of P true h k = h
either_of P false h k = k

-- of two tests one passes
pub of_two : {P : Type 0} {x y : Bool} → (x || y) ≡ true → (x ≡ true → P) → (y ≡ true → P) → P
of_two {x = true} h one other = one refl
of_two {x = false} h one other = other h
