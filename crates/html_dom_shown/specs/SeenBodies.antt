-- What is visible of the body of a plain tree.
use Rattle.std.specs.Prelude.{false, List, Option, Some, None}
use Rattle.html_dom_tree.specs.PlainTree.{Plain, Plains}
use Rattle.html_dom_shown.specs.{Bodies.{tree_body}, Collapsing.{Piece, plains_atoms, collapsed_pieces}}

abbrev pub seen_plains : Plains → List Piece
seen_plains ps = collapsed_pieces (plains_atoms false ps)

abbrev pub seen_body : Option Plains → Option (List Piece)
seen_body None = None
seen_body (Some body) = Some (seen_plains body)

-- what is visible of the body of the tree that a text reads as
abbrev pub seen_tree : Option Plain → Option (List Piece)
seen_tree None = None
seen_tree (Some tree) = seen_body (tree_body tree)
