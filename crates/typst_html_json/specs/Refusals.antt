-- Refusals, and the outcomes of calls that may refuse their input.
use Rattle.std.specs.Prelude.{◌≡◌, ℕ, ◌==◌, List, ◌∷◌, Result, if◌then◌else◌}
use Rattle.html_names_core.specs.Endings.{GivesBy}
use Rattle.html_dom_tree.specs.declared.span.Span.{Span}
use Rattle.typst_html_json.specs.{NameRefusals.{Refusal}, declared.fault.Fault.{Fault}}
use Rattle.typst_html_json.specs.declared.fault.Fault.TheVariants.{OutOfMemory, BadInput, Refused}

-- the fault with that number; 0 is the number of an allocation that failed
abbrev pub numbered_fault : (number : ℕ) → Span → Fault
numbered_fault number span = if number == 0 then OutOfMemory else Refused number span

-- the fault is the first of the list, unless an allocation failed
abbrev pub IsFirst : Fault → List Refusal → Type 0
IsFirst OutOfMemory rs = Unit {0}
IsFirst (BadInput place) rs = ⊥
IsFirst (Refused number span) rs = (rest : List Refusal) × (rs ≡ (number, span.0) ∷ rest)

-- the outcome of a call that makes a value: the value without a refusal, or the first refusal,
-- unless an allocation failed before
abbrev pub Gives : {A B : Type 0} (view : A → B) → Result A Fault → (value : B) → List Refusal
    → Type 0
Gives = GivesBy IsFirst
