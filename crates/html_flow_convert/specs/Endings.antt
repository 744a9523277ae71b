-- The results of calls that may return a `FlowFault`: the stated value if nothing is too deep, or
-- else the first item that is. An allocation may fail before either.
use Rattle.std.specs.Prelude.{ℕ, List, Result}
use Rattle.html_names_core.specs.Endings.{GivesBy, AddsBy}
use Rattle.html_dom_tree.specs.Tree.{NodeView}
use Rattle.html_flow_faults.specs.{FlowFaults.{IsFirst}, declared.fault.FlowFault.{FlowFault}}

-- a call returns a value, or fails with the first item that is too deep
abbrev pub Gives : {A B : Type 0} (view : A → B) → Result A FlowFault → (value : B)
    → (too_deep : List ℕ) → Type 0
Gives = GivesBy IsFirst

-- a call adds nodes, or fails with the first item that is too deep
abbrev pub Adds : Result (Unit {0}) FlowFault → (old new nodes : List NodeView)
    → (too_deep : List ℕ) → Type 0
Adds = AddsBy IsFirst
