-- The meaning of a fault of reading, and its number.
use Rattle.std.specs.Prelude.{◌≡◌, ℕ, List, [], ◌∷◌, Option, None}
use Rattle.html_dom_tree.specs.Tree.{ElementView}
use Rattle.html_text.specs.Places.{place_at}
use Rattle.typst_html_read.specs.declared.fault.{ReadFault.{ReadFault}, ReadFault.TheVariants.{OutOfMemory, TooDeep, Syntax}}

abbrev pub number_of : ReadFault → ℕ
number_of OutOfMemory = 0
number_of (TooDeep place) = 8
number_of (Syntax place) = 25

-- the fault is the first in the text: the first element that is too deep or, if there is none and
-- no element is read, the first character with which no readable text goes on; memory may run out
-- before
abbrev pub IsFirst : (text : List ℕ) → (element : Option ElementView) → (too_deep : List ℕ)
    → (unread : ℕ) → ReadFault → Type 0
IsFirst text element too_deep unread OutOfMemory = Unit {0}
IsFirst text element too_deep unread (TooDeep place) =
    (n : ℕ) × (rest : List ℕ) × (too_deep ≡ n ∷ rest) × (place ≡ place_at text n)
IsFirst text element too_deep unread (Syntax place) =
    (element ≡ None) × (too_deep ≡ []) × (place ≡ place_at text unread)
