-- The results of calls that may return a `ConstructFault`: the stated value if there is no fault,
-- or else the first fault. An allocation may fail before either.
use Rattle.std.specs.Prelude.{List, Result}
use Rattle.html_names_core.specs.Endings.{GivesBy}
use Rattle.html_flow_faults.specs.{ConstructFaults.{ConstructFaultView, IsFirst}, declared.construct_fault.ConstructFault.{ConstructFault}}

-- a call returns a value, or fails with the first fault
abbrev pub Gives : {A B : Type 0} (view : A → B) → Result A ConstructFault → (value : B)
    → List ConstructFaultView → Type 0
Gives = GivesBy IsFirst
