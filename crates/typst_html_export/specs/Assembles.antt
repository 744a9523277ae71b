-- The results of calls that make a document or a part of one.
use Rattle.std.specs.Prelude.{◌≡◌, List, Result, IfErr}
use Rattle.html_names_core.specs.Endings.{GivesBy}
use Rattle.typst_html_encode.specs.{FaultViews.{ExportFaultView, IsFirstView}, declared.fault.ExportFault.{ExportFault}}
use Rattle.typst_html_encode.specs.declared.fault.ExportFault.TheVariants.{OutOfMemory}

-- a call returns that value if there is no fault, or else fails with the first fault; an allocation
-- may fail before either
abbrev pub GivesDocument : {A B : Type 0} (view : A → B) → Result A ExportFault → (value : B)
    → List ExportFaultView → Type 0
GivesDocument = GivesBy IsFirstView

-- a call fails only if an allocation fails
abbrev pub FailsByMemoryAlone : {A : Type 0} → Result A ExportFault → Type 0
FailsByMemoryAlone r = IfErr r (λ e. e ≡ OutOfMemory)

-- a call returns nothing if there is no fault, or else fails with the first fault
abbrev pub Passes : Result (Unit {0}) ExportFault → List ExportFaultView → Type 0
Passes r faults = GivesDocument (λ done. done) r tt faults
