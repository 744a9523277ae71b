-- Laws of walks.
use Rattle.std.specs.Prelude.{◌≡◌, ℕ, Bool, List, ◌∷◌, ◌++◌}
use Rattle.html_dom_tree.specs.Tree.{Head, NodesView}
use Rattle.html_dom_walk.specs.{Events.{Event, Placed, leave, events_of, from_end}, Gathered.{gathered, nodes_found, nodes_gathered}}
use Rattle.html_dom_walk.specs.Passing.{Goes, past}

-- what is gathered of the events of nodes, and then of others, is what the recursion gathers of the
-- nodes, and what is gathered of the others
abbrev pub GatheredIs : Type 0 → Type 0
GatheredIs A = (of_event : Placed → List A) (parent : List ℕ) (index : ℕ) (ns : NodesView)
    (later : List Placed) → gathered of_event (events_of parent index ns later)
    ≡ nodes_gathered of_event parent index ns ++ gathered of_event later

-- the same where paths do not count
abbrev pub FoundIs : Type 0 → Type 0
FoundIs A = (of_event : Event → List A) (parent : List ℕ) (index : ℕ) (ns : NodesView)
    (later : List Placed) → gathered (λ e. of_event e.1) (events_of parent index ns later)
    ≡ nodes_found of_event ns ++ gathered (λ e. of_event e.1) later

-- what is below an element ends where the element ends
abbrev pub SkipsBelow : Type 0
SkipsBelow = (parent : List ℕ) (index : ℕ) (ns : NodesView) (path : List ℕ)
    (later : List Placed) →
    from_end 0 (events_of parent index ns ((path, leave) ∷ later)) ≡ (path, leave) ∷ later

-- a loop that steps over the events of nodes, and then over others, comes to what it comes to over
-- the others from where a recursion over the nodes ends
abbrev pub PastIs : Type 0 → Type 0
PastIs S = (step : S → Placed → S) (skips : S → Head → Bool)
    (nodes_past : (parent : List ℕ) (index : ℕ) → S → NodesView → S) →
    Goes step skips nodes_past → (parent : List ℕ) (index : ℕ) (s : S) (ns : NodesView)
    (later : List Placed) → past step skips 0 s (events_of parent index ns later)
    ≡ past step skips 0 (nodes_past parent index s ns) later

-- what is below an element is left out if the walk skips it
abbrev pub SkippedIs : Type 0 → Type 0
SkippedIs S = (step : S → Placed → S) (skips : S → Head → Bool) (s : S) (events : List Placed) →
    past step skips 1 s events ≡ past step skips 0 s (from_end 0 events)
