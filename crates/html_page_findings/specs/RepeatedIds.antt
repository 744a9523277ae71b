-- Ids that occur earlier in their document (HTML Standard 3.2.6: an `id` is unique in its tree;
-- 4.12.3: what a `template` contains is a tree of its own).
use Rattle.std.specs.Prelude.{Bool, List, [], ◌∷◌, ◌++◌, codes, if◌then◌else◌, option_to_list}
use Rattle.html_names_core.specs.Names.{stands_in}
use Rattle.html_dom_tree.specs.{Attributes.{first}, Tree.{element_node, node, none, ElementView}}
use Rattle.html_links.specs.TreeNames.{shown_names, Name, frame_names, with_used_name}
use Rattle.html_page_findings.specs.PlacedTexts.{Placed, TextKind, document_placed}

-- the first `id` of an element, and the id and the anchors of a frame
abbrev pub ids : TextKind
ids = record {
  own = λ name attrs. option_to_list (first attrs (codes "id"));
  framed = frame_names;
}

-- the ids of a document with their paths
abbrev pub placed_ids : ElementView → List Placed
placed_ids = document_placed ids

-- the first `id` of each element, the root among them, and the ids and anchors of frames
abbrev pub tree_ids : ElementView → List Name
tree_ids e = shown_names (node (element_node e.0 e.1) none)

-- the ids that occur earlier in the list, or are passed already
unfoldable pub repeated : (is_passed : Name → Bool) → List Placed → List Placed
repeated is_passed [] = []
repeated is_passed (p ∷ ps) =
    (if is_passed p.1 then p ∷ [] else []) ++ repeated (with_used_name p.1 is_passed) ps

abbrev pub repeated_ids : ElementView → List Placed
repeated_ids e = repeated (stands_in []) (placed_ids e)
