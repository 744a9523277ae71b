-- The parts of what is seen stand apart.
use Rattle.std.proofs.Common.{◌≡◌, ℕ, Bool, true, false, List, [], ◌∷◌, not, Option, Some, None, refl, ap}
use Rattle.std.{proofs.lemmas.Bool.{and_from, false≢true}, specs.Prelude.{unwrap_or}}
use Rattle.html_dom_tree.specs.{PlainTree.{Plains, element_normal}, Tree.{ElementView}}
use Rattle.html_dom_shown.specs.{Bodies.{tree_body}, Collapsing.{Piece, char, thing, line, edge, merged_edges, atoms_pieces, plains_atoms}}
use Rattle.html_dom_shown.specs.SeenBodies.{seen_body}
use Rattle.html_page_text.specs.PageTexts.{page_parts}
use Rattle.html_page_text.specs.Parts.{Part, text_part, object_part, line_part, edge_part, put_text, joined_parts, begins_with_edge, stand_apart}
use Rattle.html_page_text.specs.Unseen.{seen_element}

with_char : (c : ℕ) (ps : List Part) → stand_apart ps ≡ true → stand_apart (put_text (c ∷ []) ps) ≡ true
with_char c [] e = refl
with_char c (text_part [] ∷ ps) e = absurd (false≢true e)
with_char c (text_part (d ∷ ds) ∷ ps) e = e
with_char c (object_part name ∷ ps) e = e
with_char c (line_part ∷ ps) e = e
with_char c (edge_part ∷ ps) e = e

no_edge_first : (c : ℕ) (ps : List Part) → begins_with_edge (put_text (c ∷ []) ps) ≡ false
no_edge_first c [] = refl
no_edge_first c (text_part t ∷ ps) = refl
no_edge_first c (object_part name ∷ ps) = refl
no_edge_first c (line_part ∷ ps) = refl
no_edge_first c (edge_part ∷ ps) = refl

-- behind an edge stands no edge
past_edge : (xs : List Piece) → begins_with_edge (joined_parts (merged_edges true xs)) ≡ false
past_edge [] = refl
past_edge (char c ∷ xs) = no_edge_first c (joined_parts (merged_edges false xs))
past_edge (thing name ∷ xs) = refl
past_edge (line ∷ xs) = refl
past_edge (edge ∷ xs) = past_edge xs

merged_stand_apart : (b : Bool) (xs : List Piece) →
    stand_apart (joined_parts (merged_edges b xs)) ≡ true
merged_stand_apart b [] = refl
merged_stand_apart b (char c ∷ xs) =
    with_char c (joined_parts (merged_edges false xs)) (merged_stand_apart false xs)
merged_stand_apart b (thing name ∷ xs) = merged_stand_apart false xs
merged_stand_apart b (line ∷ xs) = merged_stand_apart false xs
merged_stand_apart true (edge ∷ xs) = merged_stand_apart true xs
merged_stand_apart false (edge ∷ xs) =
    and_from _ _ (ap not (past_edge xs)) (merged_stand_apart true xs)

body_stands_apart : (body : Option Plains) →
    stand_apart (joined_parts (unwrap_or (seen_body body) [])) ≡ true
body_stands_apart None = refl
body_stands_apart (Some body) = merged_stand_apart false (atoms_pieces false (plains_atoms false body))

pub parts_stand_apart : (root : ElementView) → stand_apart (page_parts root) ≡ true
parts_stand_apart root = body_stands_apart (tree_body (element_normal (seen_element root)))
