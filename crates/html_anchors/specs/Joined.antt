-- Parts of the walk: one list of nodes after another, one start tag of a frame, and several.
use Rattle.html_dom_tree.specs.{Frames.{PointView}, Tree.{starts, ends, NodeView, tag_node, text_node, element_node, frame_node, NodesView}}
use Rattle.std.specs.Prelude.{ℕ, Bool, true, false, List, ◌++◌}
use Rattle.html_dom_document.specs.DomIndices.{◌then◌}
use Rattle.html_anchors.specs.{AnchorWalk.{with_entry, WalkState, after_starts, Walked}, Events.{FrameStart}, Namings.{start_pairs}}
use Rattle.html_links.specs.TreeNames.{Name, with_used_name}

-- nodes that are already made, before those of a walk
abbrev pub walked_behind : NodesView → Walked → Walked
walked_behind made w = (made then w.0, w.1)

-- whether a node is an end tag, behind which a new `span` may stand
abbrev pub is_end : NodeView → Bool
is_end (tag_node (starts l label dest)) = false
is_end (tag_node (ends l)) = true
is_end (text_node s span) = false
is_end (element_node h kids) = false
is_end (frame_node f) = false

-- the state after a name is made for one location
abbrev pub named_at : ℕ → Name → WalkState → WalkState
named_at l n st = record st { used = with_used_name n st.used; answers = with_entry l n st.answers }

-- the state and the anchors of a frame
abbrev pub InFrame : Type 0
InFrame = WalkState × List (PointView × Name)

-- the state and the anchors of a frame after these start tags in it got their names
abbrev pub with_starts : List FrameStart → InFrame → InFrame
with_starts ss w = (after_starts ss w.0, w.1 ++ start_pairs w.0.used ss)
