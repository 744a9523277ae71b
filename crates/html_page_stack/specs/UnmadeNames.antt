-- What calls answer of the names of elements that were too deep to be made.
use Rattle.std.specs.Prelude.{◌≡◌, ◌≤◌, ℕ, Bool, true, false, List, Option, Some, None, take, length, reverse}
use Rattle.html_page_stack.specs.Pages.{Page, names_behind, passed_end}

-- the index of the last of the names that is this one, among so many of the last
abbrev pub IsLastNamed : Option ℕ → (names : List (List ℕ)) (among : ℕ) (name : List ℕ) → Type 0
IsLastNamed None names among name = names_behind (reverse names) among name ≡ None
IsLastNamed (Some index) names among name = (index ≤ length names)
    × (names_behind (reverse names) among name ≡ Some (reverse (take index names)))

-- a call takes the end tag of an element that was not made, if it is one
abbrev pub PassesEnd : (passes : Bool) (name : List ℕ) (old new : Page) → Type 0
PassesEnd false name old new = (passed_end name old ≡ None) × (new ≡ old)
PassesEnd true name old new = (names : List (List ℕ))
    × (passed_end name old ≡ Some names) × (new ≡ record old { unmade = names })
