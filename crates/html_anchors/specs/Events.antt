-- The nodes below the root, in document order: one event for each.
use Rattle.std.specs.Prelude.{ℕ, Bool, if◌then◌else◌, List, [], ◌∷◌, ◌++◌, Option, Some, None}
use Rattle.html_dom_tree.specs.Frames.{PointView, FrameView, frame, FrameItemsView, no_frame_items, placed_item, tag_item, group_item, link_item, other_item}
use Rattle.html_dom_tree.specs.Tree.{starts, ends, tag_node, text_node, element_node, frame_node, NodesView, none, node}
use Rattle.html_links.specs.TreeNames.{Name, first_id}

-- which locations links lead to, and the points in frames at which locations were recorded: a
-- location whose first start tag stands outside all frames has none
pub record Targets : Type 0 where
  pub is_target : ℕ → Bool
  pub points : ℕ → Option PointView

-- a start tag of a target
pub record Start : Type 0 where
  pub location : ℕ
  pub label : Option Name

-- a start tag of a target inside a frame, if the target was recorded in a frame
pub record FrameStart : Type 0 where
  pub location : ℕ
  pub label : Option Name
  pub point : PointView

pub data Event : Type 0 where
  -- a start tag of a location that is no target
  other_start : Event
  target_start : Start → Event
  end_tag : (location : ℕ) → Event
  -- an element, with its first `id`
  element : (id : Option Name) → Event
  text : Event
  html_frame : (id : Option Name) (inside : List FrameStart) → Event

abbrev pub start_event : (is_target : Bool) → ℕ → Option Name → Event
start_event is_target l label =
    if is_target then target_start (record { location = l; label = label }) else other_start

-- a start tag in a frame before others
abbrev pub with_frame_start :
    (is_target : Bool) → Option PointView → ℕ → Option Name → List FrameStart → List FrameStart
with_frame_start is_target None l label ss = ss
with_frame_start is_target (Some p) l label ss =
    if is_target then record { location = l; label = label; point = p } ∷ ss else ss

unfoldable pub items_starts : Targets → FrameItemsView → List FrameStart
items_starts x no_frame_items = []
items_starts x (placed_item p (tag_item (starts l label dest)) rest) =
    with_frame_start (x.is_target l) (x.points l) l label (items_starts x rest)
items_starts x (placed_item p (tag_item (ends l)) rest) = items_starts x rest
items_starts x (placed_item p (group_item (frame picture items)) rest) =
    items_starts x items ++ items_starts x rest
items_starts x (placed_item p (link_item dest) rest) = items_starts x rest
items_starts x (placed_item p other_item rest) = items_starts x rest

abbrev pub frame_starts : Targets → FrameView → List FrameStart
frame_starts x (frame picture items) = items_starts x items

unfoldable pub events : Targets → NodesView → List Event
events x none = []
events x (node (tag_node (starts l label dest)) ns) =
    start_event (x.is_target l) l label ∷ events x ns
events x (node (tag_node (ends l)) ns) = end_tag l ∷ events x ns
events x (node (text_node s span) ns) = text ∷ events x ns
events x (node (element_node h kids) ns) = element (first_id h) ∷ events x kids ++ events x ns
events x (node (frame_node f) ns) = html_frame f.id (frame_starts x f.inner) ∷ events x ns
