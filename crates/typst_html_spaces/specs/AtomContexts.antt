-- Atoms that stand between others: one Boolean is enough for what stands before, and one for what
-- stands after.
use Rattle.std.specs.Prelude.{◌≡◌, Bool, true, false, List, [], ◌∷◌, ◌++◌, map}
use Rattle.html_dom_shown.specs.Collapsing.{Atom, visible, ignorable, collapsible, kept, object, break, border, Piece, char, thing, line, edge, then_supports, atom_pieces, merged_edges, collapsed_pieces}

-- whether what stands at an atom or after it supports the blanks before, given whether what follows
-- the atom does
abbrev pub supports_or : Atom → (after : Bool) → Bool
supports_or (visible c) after = true
supports_or (ignorable c) after = after
supports_or (collapsible c) after = after
supports_or (kept c) after = true
supports_or (object name) after = true
supports_or break after = false
supports_or border after = false

-- the same for a list of atoms
abbrev pub support_at : List Atom → (after : Bool) → Bool
support_at [] after = after
support_at (a ∷ as') after = supports_or a (support_at as' after)

-- whether what stands before the end of a list supports a blank there, given whether what stands
-- before the list does
abbrev pub support_past : (before : Bool) → List Atom → Bool
support_past before [] = before
support_past before (a ∷ as') = support_past (then_supports before a) as'

-- what is visible of atoms between others
abbrev pub pieces_between : (before after : Bool) → List Atom → List Piece
pieces_between before after [] = []
pieces_between before after (a ∷ as') = atom_pieces before (support_at as' after) a
    ++ pieces_between (then_supports before a) after as'

-- an atom stays: if it is a blank that may go, it is a space with support on both sides
abbrev pub AtomStays : (before after : Bool) → Atom → Type 0
AtomStays before after (visible c) = Unit {0}
AtomStays before after (ignorable c) = Unit {0}
AtomStays before after (collapsible c) = (c ≡ 32) × (before ≡ true) × (after ≡ true)
AtomStays before after (kept c) = Unit {0}
AtomStays before after (object name) = Unit {0}
AtomStays before after break = Unit {0}
AtomStays before after border = Unit {0}

-- each atom of a list between others stays
abbrev pub AtomsStay : (before after : Bool) → List Atom → Type 0
AtomsStay before after [] = Unit {0}
AtomsStay before after (a ∷ as') = AtomStays before (support_at as' after) a
    × AtomsStay (then_supports before a) after as'

-- what is visible of an atom that stays
abbrev pub own_piece : Atom → Piece
own_piece (visible c) = char c
own_piece (ignorable c) = char c
own_piece (collapsible c) = char c
own_piece (kept c) = char c
own_piece (object name) = thing name
own_piece break = line
own_piece border = edge

abbrev pub own_pieces : List Atom → List Piece
own_pieces = map own_piece

-- whether an edge stands right before the end of the pieces, given whether one stands right before
-- them
abbrev pub ends_in_edge : (after_edge : Bool) → List Piece → Bool
ends_in_edge after_edge [] = after_edge
ends_in_edge after_edge (char c ∷ ps) = ends_in_edge false ps
ends_in_edge after_edge (thing name ∷ ps) = ends_in_edge false ps
ends_in_edge after_edge (line ∷ ps) = ends_in_edge false ps
ends_in_edge after_edge (edge ∷ ps) = ends_in_edge true ps

-- the lists are the same but for neighbouring edges, wherever they stand
abbrev pub SameButEdges : List Piece → List Piece → Type 0
SameButEdges ps qs = (b : Bool) →
    (merged_edges b ps ≡ merged_edges b qs) × (ends_in_edge b ps ≡ ends_in_edge b qs)

-- what stands before and after an atom determines what collapsing makes of it
abbrev pub CollapsesByContext : Type 0
CollapsesByContext = (as' : List Atom) →
    collapsed_pieces as' ≡ merged_edges false (pieces_between false false as')

-- what is visible of two lists, each with the other beside it, is what is visible of them together
abbrev pub PiecesOfBoth : Type 0
PiecesOfBoth = (before after : Bool) (xs ys : List Atom) →
    pieces_between before after (xs ++ ys)
    ≡ pieces_between before (support_at ys after) xs
    ++ pieces_between (support_past before xs) after ys
