-- What is visible of a root's body in a browser.
use Rattle.std.specs.Prelude.{List, [], Some, unwrap_or}
use Rattle.html_dom_tree.specs.{PlainTree.{element_normal}, Tree.{ElementView}}
use Rattle.html_dom_shown.specs.{Collapsing.{Piece}, SeenBodies.{seen_tree}}
use Rattle.html_page_text.specs.{Parts.{Part, joined_parts}, Unseen.{seen_element}}

-- what is visible in the body of the normal form of a root without its hidden elements; nothing is
-- visible of a root without a body
abbrev pub page_pieces : ElementView → List Piece
page_pieces root = unwrap_or (seen_tree (Some (element_normal (seen_element root)))) []

-- what is visible of a root, as parts
abbrev pub page_parts : ElementView → List Part
page_parts root = joined_parts (page_pieces root)
