-- Numbers of the faults of names, when one is the first, how calls end that may return one, and
-- that equality is decidable.
use Rattle.std.specs.Prelude.{◌≡◌, ℕ, ◌==◌, List, ◌∷◌, if◌then◌else◌, Result, refl}
use native.Mathlib.Decide.{ℕ_discrete}
use mathlib.Core.HLevel.{×_discrete}
use Rattle.html_names_core.specs.{Endings.{GivesBy}, Equal.{discrete_by}, declared.fault.NameFault.{NameFault}}
use Rattle.html_names_core.specs.declared.fault.NameFault.TheVariants.{OutOfMemory, EmptyTag, BadTagChar, CustomStart, CustomCapital, Reserved, EmptyAttr, BadAttrChar}

abbrev pub number_of : NameFault → ℕ
number_of OutOfMemory = 0
number_of EmptyTag = 1
number_of (BadTagChar c) = 2
number_of CustomStart = 3
number_of CustomCapital = 4
number_of Reserved = 5
number_of EmptyAttr = 6
number_of (BadAttrChar c) = 7

-- the returned fault is the first of the list, unless an allocation failed
abbrev pub IsFirst : NameFault → List NameFault → Type 0
IsFirst OutOfMemory fs = Unit {0}
IsFirst f fs = (rest : List NameFault) × (fs ≡ f ∷ rest)

-- a call returns a name
abbrev pub Gives : Result (List ℕ) NameFault → (name : List ℕ) → List NameFault → Type 0
Gives = GivesBy IsFirst (λ name. name)

-- the statement holds if an allocation failed
abbrev pub OnOutOfMemory : NameFault → Type 0 → Type 0
OnOutOfMemory OutOfMemory wanted = wanted
OnOutOfMemory f wanted = Unit {0}

-- the character of a fault, or 0 if it has none
abbrev char_of : NameFault → ℕ
char_of (BadTagChar c) = c
char_of (BadAttrChar c) = c
char_of fault = 0

-- the fault with that number and that character
abbrev fault_of : ℕ × ℕ → NameFault
fault_of p = if p.0 == 1 then EmptyTag else (if p.0 == 2 then BadTagChar p.1
    else (if p.0 == 3 then CustomStart else (if p.0 == 4 then CustomCapital
    else (if p.0 == 5 then Reserved else (if p.0 == 6 then EmptyAttr
    else (if p.0 == 7 then BadAttrChar p.1 else OutOfMemory))))))

fault_back : (f : NameFault) → fault_of (number_of f, char_of f) ≡ f
fault_back OutOfMemory = refl
fault_back EmptyTag = refl
fault_back (BadTagChar c) = refl
fault_back CustomStart = refl
fault_back CustomCapital = refl
fault_back Reserved = refl
fault_back EmptyAttr = refl
fault_back (BadAttrChar c) = refl

pub name_fault_discrete : Discrete NameFault
name_fault_discrete = discrete_by (λ f. (number_of f, char_of f)) fault_of fault_back
    (×_discrete ℕ_discrete ℕ_discrete)
