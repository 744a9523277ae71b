-- How calls end: with the stated value and no fault, or with the first fault; an allocation may
-- fail before. `IsFirst e faults` says that e is the first of the faults, or that an allocation
-- failed.
use Rattle.std.specs.Prelude.{◌≡◌, List, [], ◌++◌, Result, OnOk, IfOk, IfErr}

-- a call returns a value
pub record GivesBy {A B E F : Type 0} (IsFirst : E → List F → Type 0) (view : A → B)
    (r : Result A E) (value : B) (faults : List F) : Type 0 where
  pub made : IfOk r (λ a. view a ≡ value)
  pub clean : OnOk r (faults ≡ [])
  pub fault : IfErr r (λ e. IsFirst e faults)

-- a call appends to a borrowed list
pub record AddsBy {A E F : Type 0} (IsFirst : E → List F → Type 0) (r : Result (Unit {0}) E)
    (old new added : List A) (faults : List F) : Type 0 where
  pub appended : OnOk r (new ≡ old ++ added)
  pub clean : OnOk r (faults ≡ [])
  pub fault : IfErr r (λ e. IsFirst e faults)
