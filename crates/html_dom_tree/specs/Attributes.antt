-- Lists of attributes, in which a name may be repeated.
use Rattle.std.specs.Prelude.{◌≡◌, ℕ, ◌+◌, Bool, true, not, ◌&&◌, List, [], ◌∷◌, ◌++◌, bytes_eq, if◌then◌else◌, Option, Some, None, is_some}
use Rattle.html_names_core.specs.Texts.{TextPair}

-- the value of the first pair of that name
abbrev pub first : List TextPair → List ℕ → Option (List ℕ)
first [] name = None
first (p ∷ ps) name = if bytes_eq p.0 name then Some p.1 else first ps name

-- pairs with that value in the first pair of that name
abbrev pub with_value : List TextPair → (name value : List ℕ) → List TextPair
with_value [] name value = []
with_value (p ∷ ps) name value =
    if bytes_eq p.0 name then (p.0, value) ∷ ps else p ∷ with_value ps name value

-- the index of the first pair of that name, or the length
abbrev pub place : List TextPair → List ℕ → ℕ
place [] name = 0
place (p ∷ ps) name = if bytes_eq p.0 name then 0 else place ps name + 1

-- whether there is a pair of that name
abbrev pub has_name : List TextPair → List ℕ → Bool
has_name ps name = is_some (first ps name)

-- pairs with one more at the end, unless there is one of its name
abbrev pub with_new : List TextPair → TextPair → List TextPair
with_new ps p = if has_name ps p.0 then ps else ps ++ p ∷ []

-- pairs with that value in the first pair of its name, or with the pair at the end if there is none
abbrev pub with_set : List TextPair → TextPair → List TextPair
with_set ps p = if has_name ps p.0 then with_value ps p.0 p.1 else ps ++ p ∷ []

-- the inner pairs, then the first pair of each name that only the outer ones have
abbrev pub union : (inner outer : List TextPair) → List TextPair
union inner [] = inner
union inner (p ∷ ps) = union (with_new inner p) ps

-- whether no name is repeated
abbrev pub names_differ : List TextPair → Bool
names_differ [] = true
names_differ (p ∷ ps) = not (has_name ps p.0) && names_differ ps

-- the first option if it holds a value, else the second
abbrev pub or_else : {A : Type 0} → Option A → Option A → Option A
or_else None other = other
or_else (Some x) other = Some x

-- after a fold a name has its inner value if there is one, else its outer value
abbrev pub FindsInnerFirst : Type 0
FindsInnerFirst = (inner outer : List TextPair) (name : List ℕ) →
    first (union inner outer) name ≡ or_else (first inner name) (first outer name)

abbrev pub IsAssociative : Type 0
IsAssociative = (as' bs cs : List TextPair) → union (union as' bs) cs ≡ union as' (union bs cs)

abbrev pub KeepsOnNothing : Type 0
KeepsOnNothing = (inner : List TextPair) → union inner [] ≡ inner

-- an empty inner list takes each name of the outer once
abbrev pub DropsRepeats : Type 0
DropsRepeats = (outer : List TextPair) → names_differ (union [] outer) ≡ true
