-- A choice by a test that is known.
use Rattle.std.{proofs.Common.{◌≡◌, Bool, true, false, arith}, specs.Prelude.{if◌then◌else◌}}

-- both branches are the same
pub either : {A : Type 0} (b : Bool) (x y r : A) → (b ≡ true → x ≡ r) → (b ≡ false → y ≡ r) →
    (if b then x else y) ≡ r
either b x y r h k = grind arith

pub pick : {A : Type 0} {b : Bool} {x : A} (y : A) {r : A} → b ≡ true → x ≡ r →
    (if b then x else y) ≡ r
pick y h k = rw h k

pub skip : {A : Type 0} {b : Bool} (x : A) {y r : A} → b ≡ false → y ≡ r → (if b then x else y) ≡ r
skip x h k = rw h k
