-- The elements of a tree by their paths.
use Rattle.std.specs.Prelude.{ℕ, List, [], ◌∷◌, Option, Some, option_and_then}
use Rattle.html_dom_tree.specs.{ByIndex.{element_at_index}, Tree.{ElementView}}

-- the element to which a path of indices of children leads, if it leads to one
abbrev pub element_at : (path : List ℕ) → ElementView → Option ElementView
element_at [] e = Some e
element_at (index ∷ path) e =
    option_and_then (element_at path) (element_at_index e.1 index)
