-- Groups of start tags, each with its server: a group is the start tags of targets since the last
-- server, and its server is the first element, text or frame after it, or end tag of one of its
-- locations. The whole group gets one name, that of its server.
use Rattle.std.specs.Prelude.{ℕ, Bool, true, false, ◌||◌, ◌==◌, if◌then◌else◌, List, [], ◌∷◌, ◌++◌, Option, None}
use Rattle.html_links.specs.TreeNames.{Name}
use Rattle.html_anchors.specs.Events.{Start, Event, other_start, target_start, end_tag, element, text, html_frame}

-- whether a start tag of the group has that location
abbrev pub is_in_group : ℕ → List Start → Bool
is_in_group l [] = false
is_in_group l (s ∷ ss) = (s.location == l) || is_in_group l ss

-- whether an event serves the group that waits for a server
abbrev pub serves : List Start → Event → Bool
serves group other_start = false
serves group (target_start s) = false
serves group (end_tag l) = is_in_group l group
serves group (element id) = true
serves group text = true
serves group (html_frame id inside) = true

-- the group that waits after an event
abbrev pub waiting_after : List Start → Event → List Start
waiting_after group (target_start s) = group ++ s ∷ []
waiting_after group e = if serves group e then [] else group

-- an event, and the group that it serves, which is empty if it serves none
pub record Cut : Type 0 where
  pub event : Event
  pub group : List Start

abbrev pub cut_at : List Start → Event → Cut
cut_at waiting e = record { event = e; group = if serves waiting e then waiting else [] }

abbrev pub cuts : (waiting : List Start) → List Event → List Cut
cuts waiting [] = []
cuts waiting (e ∷ es) = cut_at waiting e ∷ cuts (waiting_after waiting e) es

-- the name that a server already has: an element's first `id`, a frame's `id`
abbrev pub own_name : Event → Option Name
own_name (element id) = id
own_name (html_frame id inside) = id
own_name e = None

abbrev pub first_label : List Start → Option Name
first_label [] = None
first_label (s ∷ ss) = s.label

-- the label of the first start tag of that location
abbrev pub label_of : ℕ → List Start → Option Name
label_of l [] = None
label_of l (s ∷ ss) = if s.location == l then s.label else label_of l ss

-- the label from which the name of a group is made
abbrev pub label_for : Event → List Start → Option Name
label_for (end_tag l) group = label_of l group
label_for e group = first_label group
