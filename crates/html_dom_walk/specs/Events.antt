-- What a walk over a tree comes to, one after the other, each with its path: the index of each
-- child on the way from the nodes that are walked, the first of which have the paths 0, 1, 2 ..
use Rattle.std.specs.Prelude.{ℕ, zero, suc, ◌-◌, List, [], ◌∷◌, ◌++◌}
use Rattle.html_dom_tree.specs.Frames.{HtmlFrameView}
use Rattle.html_dom_tree.specs.Tree.{TagView, Head, NodeView, tag_node, text_node, element_node, frame_node, NodesView, none, node}

pub data Event : Type 0 where
  tag : TagView → Event
  text : (content : List ℕ) (span : ℕ) → Event
  frame : HtmlFrameView → Event
  enter : (head : Head) (children : NodesView) → Event
  leave : Event

-- an event and the path of its node
abbrev pub Placed : Type 0
Placed = List ℕ × Event

-- the events at a node with that path and below it, or at nodes of which the first has that index
-- below a parent, and then others. An element has its path when it is left, too
unfoldable mutual
  pub node_events : (path : List ℕ) → NodeView → (later : List Placed) → List Placed
  node_events path (tag_node t) later = (path, tag t) ∷ later
  node_events path (text_node s span) later = (path, text s span) ∷ later
  node_events path (element_node h kids) later =
      (path, enter h kids) ∷ events_of path 0 kids ((path, leave) ∷ later)
  node_events path (frame_node f) later = (path, frame f) ∷ later

  pub events_of : (parent : List ℕ) (index : ℕ) → NodesView → (later : List Placed) → List Placed
  events_of parent index none later = later
  events_of parent index (node n ns) later =
      node_events (parent ++ index ∷ []) n (events_of parent (suc index) ns later)

-- the events from the end of an element on that was entered before all of them, or none if there is
-- no such end: what is left if the rest of what is below that element is left out. `opened` is how
-- many elements are open within it
abbrev pub from_end : (opened : ℕ) → List Placed → List Placed
from_end opened [] = []
from_end zero ((path, leave) ∷ later) = (path, leave) ∷ later
from_end (suc opened) ((path, leave) ∷ later) = from_end opened later
from_end opened ((path, enter h kids) ∷ later) = from_end (suc opened) later
from_end opened ((path, tag t) ∷ later) = from_end opened later
from_end opened ((path, text s span) ∷ later) = from_end opened later
from_end opened ((path, frame f) ∷ later) = from_end opened later

-- how many elements end that were entered before all of the events
abbrev pub ends : List Placed → ℕ
ends [] = 0
ends ((path, leave) ∷ later) = suc (ends later)
ends ((path, enter h kids) ∷ later) = ends later - 1
ends ((path, tag t) ∷ later) = ends later
ends ((path, text s span) ∷ later) = ends later
ends ((path, frame f) ∷ later) = ends later
