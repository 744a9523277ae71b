-- The numbers of the faults of casts, the first of several faults, and their decidable equality.
use Rattle.std.specs.Prelude.{◌≡◌, ℕ, ◌==◌, List, ◌∷◌, if◌then◌else◌, refl}
use native.Mathlib.Decide.{ℕ_discrete}
use Rattle.html_names_core.specs.Equal.{discrete_by}
use Rattle.html_values_css.specs.declared.cast_fault.CastFault.{CastFault}
use Rattle.html_values_css.specs.declared.cast_fault.CastFault.TheVariants.{OutOfMemory, WrongKind, NotInStrings, NumberRange, NotOneChar, VerticalDir, BadImageSource, SeparatorInItem, YearRange}

abbrev pub number_of : CastFault → ℕ
number_of OutOfMemory = 0
number_of WrongKind = 16
number_of NotInStrings = 17
number_of NumberRange = 18
number_of NotOneChar = 19
number_of VerticalDir = 20
number_of BadImageSource = 21
number_of SeparatorInItem = 22
number_of YearRange = 23

-- the returned fault is the first of the list, unless memory ran out
abbrev pub IsFirst : CastFault → List CastFault → Type 0
IsFirst OutOfMemory fs = Unit {0}
IsFirst f fs = (rest : List CastFault) × (fs ≡ f ∷ rest)

-- the fault with a number
abbrev fault_of : ℕ → CastFault
fault_of n = if n == 16 then WrongKind else (if n == 17 then NotInStrings
    else (if n == 18 then NumberRange else (if n == 19 then NotOneChar
    else (if n == 20 then VerticalDir else (if n == 21 then BadImageSource
    else (if n == 22 then SeparatorInItem else (if n == 23 then YearRange else OutOfMemory)))))))

fault_back : (f : CastFault) → fault_of (number_of f) ≡ f
fault_back OutOfMemory = refl
fault_back WrongKind = refl
fault_back NotInStrings = refl
fault_back NumberRange = refl
fault_back NotOneChar = refl
fault_back VerticalDir = refl
fault_back BadImageSource = refl
fault_back SeparatorInItem = refl
fault_back YearRange = refl

pub cast_fault_discrete : Discrete CastFault
cast_fault_discrete = discrete_by number_of fault_of fault_back ℕ_discrete
