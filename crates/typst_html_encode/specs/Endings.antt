-- The results of calls that may fail with an `ExportFault`: the expected result if there is no
-- fault, or the first fault; memory may run out before either.
use Rattle.std.specs.{Prelude.{◌≡◌, ℕ, List, [], ◌++◌, Result, String, OnOk, IfOk, IfErr}, declared.alloc.Global.{Global}}
use Rattle.html_names_core.specs.{Endings.{GivesBy, AddsBy}, Texts.{text_view}}
use Rattle.typst_html_encode.specs.{ExportFaults.{IsFirst}, declared.fault.ExportFault.{ExportFault}}

-- the call returns the text
abbrev pub Gives : Result (String Global) ExportFault → (text : List ℕ) → List ExportFault → Type 0
Gives = GivesBy IsFirst text_view

-- the call appends the text
abbrev pub Adds : Result (Unit {0}) ExportFault → (old new text : List ℕ) → List ExportFault → Type 0
Adds = AddsBy IsFirst

-- the call appends the text and returns a value of which something holds
pub record AddsAnd {A : Type 0} (r : Result A ExportFault) (old new text : List ℕ)
    (faults : List ExportFault) (Holds : A → Type 0) : Type 0 where
  pub appended : OnOk r (new ≡ old ++ text)
  pub clean : OnOk r (faults ≡ [])
  pub fault : IfErr r (λ e. IsFirst e faults)
  pub returned : IfOk r Holds

-- the call writes nothing
abbrev pub Passes : Result (Unit {0}) ExportFault → List ExportFault → Type 0
Passes r faults = Adds r [] [] [] faults
