-- A choice by a test that is known, and rules that are not broken.
use Rattle.std.{proofs.Common.{◌≡◌, Bool, true, false, ◌&&◌, ◌||◌, refl, arith}, specs.Prelude.{if◌then◌else◌, Option, Some, None, is_some}}
use Rattle.html_dom_tree.specs.Attributes.{or_else}

pub either : {A : Type 0} (b : Bool) {x y r : A} → (b ≡ true → x ≡ r) → (b ≡ false → y ≡ r) →
    (if b then x else y) ≡ r
either true h k = h refl
either false h k = k refl

pub pick : {A : Type 0} {b : Bool} {x : A} (y : A) {r : A} → b ≡ true → x ≡ r →
    (if b then x else y) ≡ r
pick y h k = rw h k

pub skip : {A : Type 0} {b : Bool} (x : A) {y r : A} → b ≡ false → y ≡ r → (if b then x else y) ≡ r
skip x h k = rw h k

-- by a test, and by which of two passes

pub decide : {P : Type 0} (b : Bool) → (b ≡ true → P) → (b ≡ false → P) → P
decide true one other = one refl
decide false one other = other refl

pub of_two : {P : Type 0} {x y : Bool} → (x || y) ≡ true → (x ≡ true → P) → (y ≡ true → P) → P
of_two {x = true} h one other = one refl
of_two {x = false} h one other = other h

-- what holds of both holds of the chosen
pub either_way : {A B : Type 0} (f : A → B) (b : Bool) {x y : A} {r : B} →
    f x ≡ r → f y ≡ r → f (if b then x else y) ≡ r
either_way f true h k = h
either_way f false h k = k

-- of two tests one passes, and not both

pub second_false : {x y : Bool} → (x && y) ≡ false → x ≡ true → y ≡ false
second_false h k = grind arith

pub first_false : {x y : Bool} → (x && y) ≡ false → y ≡ true → x ≡ false
first_false h k = grind arith

-- of two tests one passes, and not the other

pub first_true : {x y : Bool} → (x || y) ≡ true → y ≡ false → x ≡ true
first_true h k = grind arith

pub second_true : {x y : Bool} → (x || y) ≡ true → x ≡ false → y ≡ true
second_true h k = grind arith

-- rules that are not broken

pub if_none : {A : Type 0} {b : Bool} (x : A) {rest : Option A} →
    (if b then Some x else rest) ≡ None → (b ≡ false) × (rest ≡ None)
if_none {b = true} x h = cc
if_none {b = false} x h = (refl, h)

pub else_none : {A : Type 0} {b : Bool} (x : A) {rest : Option A} →
    (if b then rest else Some x) ≡ None → (b ≡ true) × (rest ≡ None)
else_none {b = true} x h = (refl, h)
else_none {b = false} x h = cc

pub or_none : {A : Type 0} {x y : Option A} → or_else x y ≡ None → (x ≡ None) × (y ≡ None)
or_none {x = None} h = (refl, h)
or_none {x = Some x} h = cc

-- a name that is not found is that of no attribute
pub absent_parts : {A : Type 0} {b : Bool} (x : A) (rest : Option A) →
    is_some (if b then Some x else rest) ≡ false → (b ≡ false) × (is_some rest ≡ false)
absent_parts {b = true} x rest h = cc
absent_parts {b = false} x rest h = (refl, h)
