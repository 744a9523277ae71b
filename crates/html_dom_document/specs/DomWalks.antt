-- Where a walk over a tree is in a browser's tree, and what is recorded there.
use Rattle.std.specs.Prelude.{ℕ, List, [], ◌∷◌, ◌++◌, None, length, map, reverse, take}
use Rattle.html_dom_tree.specs.Tree.{NodesView}
use Rattle.html_dom_walk.specs.Events.{Event, tag, frame, enter, leave}
use Rattle.html_dom_document.specs.{DomIndices.{dom_indices}, IndexWalks.{indices_left}}
use Rattle.html_dom_document.specs.Places.{PlacedTagView, children_path, frame_links, frame_places, tag_places}
use Rattle.html_dom_document.specs.declared.siblings.{NodePath.{NodePath}, Outer.{Outer}, Siblings.{Siblings}}

abbrev pub path_view : NodePath → List ℕ
path_view path = path.parent.now.items ++ path.index ∷ []

-- the siblings that a walk is among: the indices of those that it comes to next, the path of their
-- parent, and the open elements, the innermost first, each as the indices of the siblings behind it
-- and the length of the path of its parent
pub record SiblingsView : Type 0 where
  pub left : List ℕ
  pub parent : List ℕ
  pub outer : List (List ℕ × ℕ)

abbrev pub outer_view : Outer → List ℕ × ℕ
outer_view o = (indices_left o.left, o.depth)

abbrev pub siblings_view : Siblings → SiblingsView
siblings_view s = record {
  left = indices_left s.left;
  parent = s.parent.items;
  outer = reverse (map outer_view s.outer.items);
}

abbrev pub first_siblings : NodesView → SiblingsView
first_siblings ns = record { left = dom_indices ns; parent = []; outer = [] }

abbrev first : List ℕ → ℕ
first [] = 0
first (i ∷ is) = i

abbrev others : List ℕ → List ℕ
others [] = []
others (i ∷ is) = is

-- the index of the next of the siblings
abbrev pub index_next : SiblingsView → ℕ
index_next s = first s.left

abbrev pub past_next : SiblingsView → SiblingsView
past_next s = record s { left = others s.left }

-- the siblings behind the innermost of the open elements
abbrev pub siblings_behind : SiblingsView → (outer : List (List ℕ × ℕ)) → SiblingsView
siblings_behind s [] = s
siblings_behind s (o ∷ outer) =
    record { left = o.0; parent = take o.1 s.parent; outer = outer }

abbrev pub siblings_past : SiblingsView → Event → SiblingsView
siblings_past s (enter h kids) = record {
  left = dom_indices kids;
  parent = children_path h s.parent (index_next s);
  outer = (others s.left, length s.parent) ∷ s.outer;
}
siblings_past s leave = siblings_behind s s.outer
siblings_past s e = past_next s

-- the start tags at an event, with their positions
abbrev pub event_places : SiblingsView → Event → List PlacedTagView
event_places s (tag t) =
    tag_places t (record { path = s.parent ++ index_next s ∷ []; point = None })
event_places s (frame f) = frame_places (s.parent ++ index_next s ∷ []) f.inner
event_places s e = []

-- the destinations of links in a frame that is the event
abbrev pub event_links : Event → List ℕ
event_links (frame f) = frame_links f.inner
event_links e = []
