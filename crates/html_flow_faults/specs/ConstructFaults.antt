-- Numbers and spans of the faults of construction, when one is the first, and when two are equal.
use Rattle.std.specs.Prelude.{◌≡◌, ℕ, List, [], ◌∷◌, map}
use native.Mathlib.Decide.{ℕ_discrete}
use mathlib.Core.List.{List-discrete}
use mathlib.Core.HLevel.{×_discrete}
use Rattle.html_dom_tree.specs.declared.span.Span.{Span}
use Rattle.html_values_css.specs.CastFaults as casts
use Rattle.html_values_css.specs.{CastFaults.{cast_fault_discrete}, declared.cast_fault.CastFault.{CastFault}}
use Rattle.html_flow_faults.specs.declared.construct_fault.ConstructFault.{ConstructFault}
use Rattle.html_flow_faults.specs.declared.construct_fault.ConstructFault.TheVariants.{OutOfMemory, Casts, BodyKind}

abbrev pub first_fault_number : List (CastFault × Span) → ℕ
first_fault_number [] = 0
first_fault_number (f ∷ fs) = casts.number_of f.0

abbrev pub number_of : ConstructFault → ℕ
number_of OutOfMemory = 0
number_of (Casts fs) = first_fault_number fs.items
number_of (BodyKind span) = 24

abbrev pub first_fault_span : List (CastFault × Span) → ℕ
first_fault_span [] = 0
first_fault_span (f ∷ fs) = f.1.0

abbrev pub span_of : ConstructFault → ℕ
span_of OutOfMemory = 0
span_of (Casts fs) = first_fault_span fs.items
span_of (BodyKind span) = span.0

abbrev pub faults_view : List (CastFault × Span) → List (CastFault × ℕ)
faults_view = map (λ f. (f.0, f.1.0))

pub data ConstructFaultView : Type 0 where
  out_of_memory : ConstructFaultView
  cast_faults : List (CastFault × ℕ) → ConstructFaultView
  body_kind : (span : ℕ) → ConstructFaultView
  deriving Discrete as ConstructFaultView-discrete

pub construct_fault_discrete : Discrete ConstructFaultView
construct_fault_discrete = ConstructFaultView-discrete
    (List-discrete (×_discrete cast_fault_discrete ℕ_discrete)) ℕ_discrete

abbrev pub construct_fault_view : ConstructFault → ConstructFaultView
construct_fault_view OutOfMemory = out_of_memory
construct_fault_view (Casts fs) = cast_faults (faults_view fs.items)
construct_fault_view (BodyKind span) = body_kind span.0

-- the returned fault is the first of the list, unless an allocation failed
abbrev pub IsFirst : ConstructFault → List ConstructFaultView → Type 0
IsFirst OutOfMemory fs = Unit {0}
IsFirst f fs = (rest : List ConstructFaultView) × (fs ≡ construct_fault_view f ∷ rest)
