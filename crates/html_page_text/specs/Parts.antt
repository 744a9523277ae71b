-- The visible pieces as a list of parts: neighbouring characters are one text.
use Rattle.std.specs.Prelude.{ℕ, Bool, true, false, not, ◌&&◌, List, [], ◌∷◌, ◌++◌}
use Rattle.html_dom_shown.specs.Collapsing.{Piece, char, thing, line, edge}

pub data Part : Type 0 where
  text_part : (text : List ℕ) → Part
  object_part : (name : List ℕ) → Part
  line_part : Part
  edge_part : Part

-- characters before parts, joined with the first text if the parts begin with one
abbrev pub put_text : List ℕ → List Part → List Part
put_text [] ps = ps
put_text (c ∷ cs) [] = text_part (c ∷ cs) ∷ []
put_text (c ∷ cs) (text_part t ∷ ps) = text_part ((c ∷ cs) ++ t) ∷ ps
put_text (c ∷ cs) (object_part name ∷ ps) = text_part (c ∷ cs) ∷ object_part name ∷ ps
put_text (c ∷ cs) (line_part ∷ ps) = text_part (c ∷ cs) ∷ line_part ∷ ps
put_text (c ∷ cs) (edge_part ∷ ps) = text_part (c ∷ cs) ∷ edge_part ∷ ps

-- the parts of visible pieces
abbrev pub joined_parts : List Piece → List Part
joined_parts [] = []
joined_parts (char c ∷ ps) = put_text (c ∷ []) (joined_parts ps)
joined_parts (thing name ∷ ps) = object_part name ∷ joined_parts ps
joined_parts (line ∷ ps) = line_part ∷ joined_parts ps
joined_parts (edge ∷ ps) = edge_part ∷ joined_parts ps

abbrev pub begins_with_text : List Part → Bool
begins_with_text [] = false
begins_with_text (text_part t ∷ ps) = true
begins_with_text (object_part name ∷ ps) = false
begins_with_text (line_part ∷ ps) = false
begins_with_text (edge_part ∷ ps) = false

abbrev pub begins_with_edge : List Part → Bool
begins_with_edge [] = false
begins_with_edge (text_part t ∷ ps) = false
begins_with_edge (object_part name ∷ ps) = false
begins_with_edge (line_part ∷ ps) = false
begins_with_edge (edge_part ∷ ps) = true

-- whether no text is empty, and no two texts or edges are neighbours
abbrev pub stand_apart : List Part → Bool
stand_apart [] = true
stand_apart (text_part [] ∷ ps) = false
stand_apart (text_part (c ∷ cs) ∷ ps) = not (begins_with_text ps) && stand_apart ps
stand_apart (object_part name ∷ ps) = stand_apart ps
stand_apart (line_part ∷ ps) = stand_apart ps
stand_apart (edge_part ∷ ps) = not (begins_with_edge ps) && stand_apart ps
