-- The pieces of a text where white space collapses (this project's rule; blanks as in CSS Text 4.1.1).
use Rattle.std.specs.Prelude.{ℕ, Bool, false, not, ◌&&◌, ◌||◌, ◌==◌, List, [], ◌∷◌, map, Option, None, Some, if◌then◌else◌}
use Rattle.html_names_core.specs.Characters.{is_blank, is_ignorable}
use Rattle.html_dom_tree.specs.Tree.{NodeView, text_node}
use Rattle.html_flow_convert.specs.Nodes.{break_node}

-- a stretch of a text, a character that is a text of its own, or a forced line break
pub data PieceView : Type 0 where
  stretch : (text : List ℕ) → PieceView
  alone : (c : ℕ) → PieceView
  line_break : PieceView

-- whether a character is neither blank nor ignorable
abbrev pub is_normal : ℕ → Bool
is_normal c = not (is_blank c) && not (is_ignorable c)

-- whether there is a character, and it is normal
abbrev pub is_normal_there : Option ℕ → Bool
is_normal_there None = false
is_normal_there (Some c) = is_normal c

abbrev pub first_char : List ℕ → Option ℕ
first_char [] = None
first_char (c ∷ cs) = Some c

-- whether a character is normal, or a space between two that are
abbrev pub is_in_stretch : (before : Option ℕ) (c : ℕ) (after : List ℕ) → Bool
is_in_stretch before c after =
    is_normal c || ((c == 32) && is_normal_there before && is_normal_there (first_char after))

-- pieces with a character before them, as part of the stretch that stands there or of a new one
abbrev pub in_stretch : ℕ → List PieceView → List PieceView
in_stretch c [] = stretch (c ∷ []) ∷ []
in_stretch c (stretch s ∷ ps) = stretch (c ∷ s) ∷ ps
in_stretch c (alone d ∷ ps) = stretch (c ∷ []) ∷ alone d ∷ ps
in_stretch c (line_break ∷ ps) = stretch (c ∷ []) ∷ line_break ∷ ps

abbrev pub is_carriage_return : Option ℕ → Bool
is_carriage_return None = false
is_carriage_return (Some c) = c == 13

-- pieces with a character outside stretches before them: CR LF, CR and LF are one line break each
abbrev pub outside_stretch : (before : Option ℕ) → ℕ → List PieceView → List PieceView
outside_stretch before c ps =
    if c == 13 then line_break ∷ ps
    else (if c == 10 then (if is_carriage_return before then ps else line_break ∷ ps)
    else alone c ∷ ps)

-- the pieces of a text that stands after a character
unfoldable pub pieces_after : (before : Option ℕ) → List ℕ → List PieceView
pieces_after before [] = []
pieces_after before (c ∷ cs) =
    let others = pieces_after (Some c) cs in
    if is_in_stretch before c cs then in_stretch c others else outside_stretch before c others

abbrev pub pieces : List ℕ → List PieceView
pieces = pieces_after None

-- the node of a piece
abbrev pub piece_node : (span : ℕ) → PieceView → NodeView
piece_node span (stretch s) = text_node s span
piece_node span (alone c) = text_node (c ∷ []) span
piece_node span line_break = break_node span

abbrev pub text_nodes : (span : ℕ) → List ℕ → List NodeView
text_nodes span text = map (piece_node span) (pieces text)
