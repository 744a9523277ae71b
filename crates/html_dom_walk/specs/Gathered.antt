-- What a loop over a walk gathers of each event, and the same by recursion over the tree.
use Rattle.std.specs.Prelude.{ℕ, suc, List, [], ◌∷◌, ◌++◌}
use Rattle.html_dom_tree.specs.Tree.{tag_node, text_node, element_node, frame_node, NodesView, none, node}
use Rattle.html_dom_walk.specs.Events.{Event, Placed, tag, text, frame, enter, leave}

abbrev pub gathered : {A : Type 0} → (of_event : Placed → List A) → List Placed → List A
gathered of_event [] = []
gathered of_event (e ∷ es) = of_event e ++ gathered of_event es

-- of nodes of which the first has that index below a parent
unfoldable pub nodes_gathered : {A : Type 0} → (of_event : Placed → List A) →
    (parent : List ℕ) (index : ℕ) → NodesView → List A
nodes_gathered of_event parent index none = []
nodes_gathered of_event parent index (node (tag_node t) ns) =
    of_event (parent ++ index ∷ [], tag t) ++ nodes_gathered of_event parent (suc index) ns
nodes_gathered of_event parent index (node (text_node s span) ns) =
    of_event (parent ++ index ∷ [], text s span) ++ nodes_gathered of_event parent (suc index) ns
nodes_gathered of_event parent index (node (element_node h kids) ns) =
    let path = parent ++ index ∷ [] in
    of_event (path, enter h kids) ++ (nodes_gathered of_event path 0 kids
    ++ (of_event (path, leave) ++ nodes_gathered of_event parent (suc index) ns))
nodes_gathered of_event parent index (node (frame_node f) ns) =
    of_event (parent ++ index ∷ [], frame f) ++ nodes_gathered of_event parent (suc index) ns

-- the same where paths do not count
unfoldable pub nodes_found : {A : Type 0} → (of_event : Event → List A) → NodesView → List A
nodes_found of_event none = []
nodes_found of_event (node (tag_node t) ns) = of_event (tag t) ++ nodes_found of_event ns
nodes_found of_event (node (text_node s span) ns) =
    of_event (text s span) ++ nodes_found of_event ns
nodes_found of_event (node (element_node h kids) ns) =
    of_event (enter h kids) ++ (nodes_found of_event kids
    ++ (of_event leave ++ nodes_found of_event ns))
nodes_found of_event (node (frame_node f) ns) = of_event (frame f) ++ nodes_found of_event ns
