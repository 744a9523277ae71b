-- The names in a tree, to which links can lead, and those in use.
use Rattle.std.specs.Prelude.{Bool, ◌||◌, if◌then◌else◌, List, [], ◌∷◌, ◌++◌, ℕ, map, codes, bytes_eq, Option, option_to_list}
use Rattle.html_dom_tree.specs.{Attributes.{first}, Frames.{PointView, HtmlFrameView}}
use Rattle.html_dom_tree.specs.Tree.{TextPair, Head, element_node, frame_node, NodesView, none, node, ElementView}

-- a name that a link can lead to
abbrev pub Name : Type 0
Name = List ℕ

-- the names in use, with one more
abbrev pub with_used_name : Name → (used : Name → Bool) → Name → Bool
with_used_name n used name = bytes_eq n name || used name

-- the first value of `id`, which may be empty
abbrev pub first_id : Head → Option Name
first_id h = first h.attrs (codes "id")

abbrev pub all_ids : List TextPair → List Name
all_ids [] = []
all_ids (p ∷ ps) = if bytes_eq p.0 (codes "id") then p.1 ∷ all_ids ps else all_ids ps

abbrev pub anchor_names : List (PointView × Name) → List Name
anchor_names = map (λ a. a.1)

abbrev pub frame_names : HtmlFrameView → List Name
frame_names f = option_to_list f.id ++ anchor_names f.anchors

-- names of the elements and of the frames of nodes, in document order
unfoldable pub gathered_names : (of_element : Head → List Name) (of_frame : HtmlFrameView → List Name)
    → NodesView → List Name
gathered_names of_element of_frame none = []
gathered_names of_element of_frame (node (element_node h kids) ns) = of_element h
    ++ (gathered_names of_element of_frame kids ++ gathered_names of_element of_frame ns)
gathered_names of_element of_frame (node (frame_node f) ns) =
    of_frame f ++ gathered_names of_element of_frame ns
gathered_names of_element of_frame (node _ ns) = gathered_names of_element of_frame ns

-- all values of `id`, and the ids and anchors of frames
abbrev pub nodes_names : NodesView → List Name
nodes_names = gathered_names (λ h. all_ids h.attrs) frame_names

-- the names of a whole tree, including the root
abbrev pub element_names : ElementView → List Name
element_names e = all_ids e.0.attrs ++ nodes_names e.1

abbrev pub id_names : Head → List Name
id_names h = option_to_list (first_id h)

-- the first `id` of each element, and the ids and anchors of frames
abbrev pub shown_names : NodesView → List Name
shown_names = gathered_names id_names frame_names

-- the first `id` of each element only
abbrev pub first_ids : NodesView → List Name
first_ids = gathered_names id_names (λ f. [])
