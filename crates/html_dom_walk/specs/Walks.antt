-- Walks as pure values: the events that are left, and the path of the last one.
use Rattle.std.specs.Prelude.{◌≡◌, ℕ, suc, Bool, true, List, [], ◌∷◌, Option, None, Some, drop, length, map, reverse}
use Rattle.html_dom_tree.specs.{FrameViews.{html_frame_view}, Views.{head_of, nodes_view, tag_view, text_view}}
use Rattle.html_dom_tree.specs.declared.node.HtmlNode.{HtmlNode}
use Rattle.html_dom_walk.specs.Events.{Event, Placed, tag, text, frame, enter, leave, events_of}
use Rattle.html_dom_walk.specs.declared.walk.{Above.{Above}, Place.{Place}, Visit.{Visit}}
use Rattle.html_dom_walk.specs.declared.walk.Visit.TheVariants as visit
use Rattle.html_dom_walk.specs.declared.walk.Walk.{Walk}

abbrev pub event_of : Visit → Event
event_of (visit.Tag t) = tag (tag_view t.now)
event_of (visit.Text s span) = text (text_view s.now) span.0
event_of (visit.Frame f) = frame (html_frame_view f.now)
event_of (visit.Enter e) = enter (head_of e.now) (nodes_view e.now.children.items)
event_of visit.Leave = leave

-- the path of the node that was visited last, from its end, and whether that node is one of the
-- siblings that are visited now, or else their parent
abbrev pub back : Place → List ℕ
back p = reverse p.path.items

-- how many siblings were visited
abbrev pub next_in : (begun : Bool) (back : List ℕ) → ℕ
next_in true (index ∷ back) = suc index
next_in begun back = 0

-- the path of their parent, from its end
abbrev pub parent_in : (begun : Bool) (back : List ℕ) → List ℕ
parent_in true (index ∷ back) = back
parent_in begun back = back

-- the siblings of each open element, the innermost first
abbrev pub above_view : Above → List (List HtmlNode)
above_view a = reverse (map (λ siblings. siblings.now) a.items.items)

-- the events at the siblings that are left and below them, and then others
abbrev pub siblings_left : (begun : Bool) (back : List ℕ) → List HtmlNode → (later : List Placed) →
    List Placed
siblings_left begun back ns later =
    let next = next_in begun back in
    events_of (reverse (parent_in begun back)) next (nodes_view (drop next ns)) later

-- the end of each open element, and the events after it
abbrev pub events_after : (above : List (List HtmlNode)) (back : List ℕ) → List Placed
events_after [] back = []
events_after (ns ∷ above) back = (reverse back, leave)
    ∷ siblings_left true back ns (events_after above (parent_in true back))

-- the path of the node visited last, empty at the start
abbrev pub path_of : Walk → List ℕ
path_of w = w.place.path.items

-- the events that are still to come
abbrev pub events_left : Walk → List Placed
events_left w =
    let b = back w.place in
    siblings_left w.place.begun b w.siblings.now
    (events_after (above_view w.above) (parent_in w.place.begun b))

-- the measure of a loop over a walk
abbrev pub visits_left : Walk → ℕ
visits_left w = length (events_left w)

-- the walk comes to the first of the events, at that path, and the others are left; or to nothing
-- if there is none
abbrev pub Comes : List Placed → Option Visit → (path : List ℕ) → (left : List Placed) → Type 0
Comes events None path left = (events ≡ []) × (left ≡ [])
Comes events (Some v) path left = events ≡ (path, event_of v) ∷ left
