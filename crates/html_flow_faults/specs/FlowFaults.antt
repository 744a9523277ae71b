-- Numbers of the faults of conversion, and when one is the first.
use Rattle.std.specs.Prelude.{◌≡◌, ℕ, List, ◌∷◌}
use Rattle.html_flow_faults.specs.declared.fault.{FlowFault.{FlowFault}, FlowFault.TheVariants.{OutOfMemory, TooDeep}}

abbrev pub number_of : FlowFault → ℕ
number_of OutOfMemory = 0
number_of (TooDeep span) = 8

-- the returned fault has the first of the spans of bodies that are too deep, unless an allocation
-- failed
abbrev pub IsFirst : FlowFault → (too_deep : List ℕ) → Type 0
IsFirst OutOfMemory spans = Unit {0}
IsFirst (TooDeep span) spans = (rest : List ℕ) × (spans ≡ span.0 ∷ rest)
