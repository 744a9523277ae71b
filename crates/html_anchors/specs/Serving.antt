-- The names of what serves locations, in a tree with anchors: a start tag has the name of the next
-- element or frame, with only tags between, and a start tag in a frame that of an anchor of the
-- frame.
use Rattle.std.specs.Prelude.{◌≡◌, ℕ, ◌-◌, Bool, List, [], ◌∷◌, ◌++◌, length, drop, Option, Some, None, if◌then◌else◌}
use Rattle.html_dom_tree.specs.Frames.{PointView}
use Rattle.html_dom_tree.specs.Tree.{starts, ends, tag_node, text_node, element_node, frame_node, NodesView, none, node, ElementView}
use Rattle.html_dom_document.specs.Documents.{DocumentView, document_root}
use Rattle.html_anchors.specs.{Anchors.{element_with_anchors, anchor_of}, Events.{FrameStart, Targets, frame_starts}}
use Rattle.html_anchors.specs.{LinkAnchors.{document_targets}, Namings.{last_name}}
use Rattle.html_links.specs.TreeNames.{Name, first_id}

pub data Mark : Type 0 where
  -- a start tag of a target
  start_mark : (location : ℕ) → Mark
  -- an element, text or frame, and its name if it has one: the first `id`, the frame's `id`
  place_mark : Option Name → Mark
  -- a start tag of a target in a frame, and its anchor
  inner_mark : (location : ℕ) → Name → Mark

abbrev pub start_marks : (is_target : Bool) → ℕ → List Mark
start_marks is_target location = if is_target then start_mark location ∷ [] else []

-- start tags in a frame, each with its anchor
abbrev pub paired_marks : List FrameStart → List (PointView × Name) → List Mark
paired_marks [] anchors = []
paired_marks (s ∷ ss) [] = []
paired_marks (s ∷ ss) (a ∷ anchors) = inner_mark s.location a.1 ∷ paired_marks ss anchors

-- the marks of the start tags in a frame: their anchors are the last ones, as many as they are
abbrev pub inner_marks : List FrameStart → List (PointView × Name) → List Mark
inner_marks ss anchors = paired_marks ss (drop (length anchors - length ss) anchors)

-- the marks below the root, in document order, without end tags
unfoldable pub marks : Targets → NodesView → List Mark
marks x none = []
marks x (node (tag_node (starts l label dest)) ns) = start_marks (x.is_target l) l ++ marks x ns
marks x (node (tag_node (ends l)) ns) = marks x ns
marks x (node (text_node s span) ns) = place_mark None ∷ marks x ns
marks x (node (element_node h kids) ns) = place_mark (first_id h) ∷ marks x kids ++ marks x ns
marks x (node (frame_node f) ns) =
    place_mark f.id ∷ inner_marks (frame_starts x f.inner) f.anchors ++ marks x ns

-- the name of the next element, text or frame
abbrev pub next_name : List Mark → Option Name
next_name [] = None
next_name (start_mark l ∷ ms) = next_name ms
next_name (place_mark name ∷ ms) = name
next_name (inner_mark l n ∷ ms) = None

abbrev pub name_entries : ℕ → Option Name → List (ℕ × Name)
name_entries l None = []
name_entries l (Some n) = (l, n) ∷ []

-- each start tag that has a name, with that name
abbrev pub served_names : List Mark → List (ℕ × Name)
served_names [] = []
served_names (start_mark l ∷ ms) = name_entries l (next_name ms) ++ served_names ms
served_names (place_mark name ∷ ms) = served_names ms
served_names (inner_mark l n ∷ ms) = (l, n) ∷ served_names ms

-- the name of a location: that of its last start tag that has one
abbrev pub serving_name : Targets → NodesView → ℕ → Option Name
serving_name x ns = last_name (served_names (marks x ns))

-- the names that locations get are those of what serves them in the new tree
abbrev pub AnchorsServe : Type 0
AnchorsServe = (x : Targets) (e : ElementView) (location : ℕ) →
    anchor_of x e location ≡ serving_name x (element_with_anchors x e).1 location

-- the anchors of these locations in a document are the names of what serves them
abbrev pub AreServing : (is_target : ℕ → Bool) → (anchor : ℕ → Option Name) → DocumentView → Type 0
AreServing is_target anchor d = let x = document_targets is_target d in
    (location : ℕ) → anchor location ≡ serving_name x (document_root d).1 location

-- the anchors that the introspector knows are the names of what serves their locations
abbrev pub KnownAnchorsServe : DocumentView → Type 0
KnownAnchorsServe d = AreServing d.introspector.is_link_target d.introspector.anchor d
