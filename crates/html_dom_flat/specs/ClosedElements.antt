-- The index at which an element of a list ends, and how it is set.
use Rattle.std.specs.Prelude.{ℕ, zero, suc, List, [], ◌∷◌}
use Rattle.html_dom_flat.specs.Flat.{FlatNodeView, flat_tag, flat_text, flat_frame, flat_element}

-- the node with that `past`, if it is an element
abbrev pub with_past : (past : ℕ) → FlatNodeView → FlatNodeView
with_past past (flat_tag t) = flat_tag t
with_past past (flat_text s span) = flat_text s span
with_past past (flat_frame f) = flat_frame f
with_past past (flat_element h old) = flat_element h past

-- the list with that `past` for the element at an index
unfoldable pub closed_at : (index past : ℕ) → List FlatNodeView → List FlatNodeView
closed_at index past [] = []
closed_at zero past (f ∷ fs) = with_past past f ∷ fs
closed_at (suc index) past (f ∷ fs) = f ∷ closed_at index past fs
