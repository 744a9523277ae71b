-- Laws of all property maps.
use Rattle.std.specs.{List.{IsDistinct}, Map.{keys_of}, Prelude.{◌≡◌, ℕ, List, [], ◌∷◌, bytes_eq, Some, None, if◌then◌else◌}}
use Rattle.std.specs.List.Sorted.{IsPermutation}
use Rattle.html_names_core.specs.Texts.{TextPair}
use Rattle.html_values_css.specs.Properties.{IsListed, value_of, with_property, without, inline_text}

-- the properties after pushing these, one after another
abbrev pub properties_after : List TextPair → List TextPair → List TextPair
properties_after old [] = old
properties_after old (p ∷ ps) = properties_after (with_property old p.0 p.1) ps

-- pushing distinct names in any order makes the same properties, and so the same text
abbrev pub AnyOrder : Type 0
AnyOrder = (old first second : List TextPair) → IsListed old → IsDistinct bytes_eq (keys_of first)
    → IsPermutation first second
    → (properties_after old first ≡ properties_after old second) × (inline_text (properties_after old first)
    ≡ inline_text (properties_after old second))

-- a push sets the value of that name, and no other value
abbrev pub PushSets : Type 0
PushSets = (pairs : List TextPair) (name value other : List ℕ)
    → value_of (with_property pairs name value) other
    ≡ (if bytes_eq other name then Some value else value_of pairs other)

-- a removed name has no value, and the others keep theirs
abbrev pub RemoveClears : Type 0
RemoveClears = (pairs : List TextPair) (name other : List ℕ) → IsListed pairs
    → value_of (without pairs name) other ≡ (if bytes_eq other name then None
    else value_of pairs other)

-- the values of the names determine the list
abbrev pub ValuesDecide : Type 0
ValuesDecide = (a b : List TextPair) → IsListed a → IsListed b
    → ((name : List ℕ) → value_of a name ≡ value_of b name) → a ≡ b
