-- The results of calls that may return a `CastFault`: the stated value if there is no fault, or the
-- first fault; out of memory may come before.
use Rattle.std.specs.Prelude.{List, Result}
use Rattle.html_names_core.specs.Endings.{GivesBy}
use Rattle.html_values_css.specs.{CastFaults.{IsFirst}, declared.cast_fault.CastFault.{CastFault}}

-- the call returns the value if there is no fault, or the first fault
abbrev pub Gives : {A B : Type 0} (view : A → B) → Result A CastFault → (value : B)
    → List CastFault → Type 0
Gives = GivesBy IsFirst
