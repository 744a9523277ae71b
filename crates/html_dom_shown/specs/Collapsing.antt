-- What is visible of plain trees once white space has collapsed: CSS Text, white space processing,
-- as this project states it. Each blank is judged by its neighbours alone.
use Rattle.std.specs.Prelude.{ℕ, Bool, true, false, ◌||◌, ◌&&◌, List, [], ◌∷◌, ◌++◌, if◌then◌else◌, codes, bytes_eq}
use Rattle.html_names_core.specs.{Characters.{is_blank, is_ignorable}, Displays.{default_display}}
use Rattle.html_names_core.specs.Kinds.{is_replaced, is_line_break, shows_border}
use Rattle.html_dom_tree.specs.{Attributes.{first}, PlainTree.{words, branch, Plains, no_plains, plain}, Tree.{TextPair}}
use Rattle.html_dom_shown.specs.Values.{is_text}

pub data Atom : Type 0 where
  visible : (c : ℕ) → Atom
  ignorable : (c : ℕ) → Atom
  -- a blank that may collapse
  collapsible : (c : ℕ) → Atom
  -- a blank that is preserved
  kept : (c : ℕ) → Atom
  object : (name : List ℕ) → Atom
  break : Atom
  border : Atom

abbrev pub char_atom : (preserved : Bool) → ℕ → Atom
char_atom preserved c = if is_blank c then (if preserved then kept c else collapsible c)
    else (if is_ignorable c then ignorable c else visible c)

abbrev pub text_atoms : (preserved : Bool) → List ℕ → List Atom
text_atoms preserved [] = []
text_atoms preserved (c ∷ cs) = char_atom preserved c ∷ text_atoms preserved cs

-- the first `style` value is exactly that text
abbrev pub style_is : List ℕ → List TextPair → Bool
style_is s attrs = is_text s (first attrs (codes "style"))

-- blanks inside are preserved
unfoldable pub preserves : List ℕ → List TextPair → Bool
preserves name attrs = bytes_eq name (codes "pre") ||
    (style_is (codes "white-space: pre-wrap") attrs || style_is
    (codes "display: block; white-space: pre-wrap") attrs)

abbrev pub has_border_display : List ℕ → Bool
has_border_display name = shows_border (default_display name)

-- a border stands before and after the content, by default or by style
unfoldable pub has_border : List ℕ → List TextPair → Bool
has_border name attrs = has_border_display name ||
    (style_is (codes "display: block") attrs || style_is
    (codes "display: block; white-space: pre-wrap") attrs)

abbrev pub bordered_atoms : Bool → List Atom → List Atom
bordered_atoms b inner = if b then border ∷ (inner ++ border ∷ []) else inner

-- the content of a replaced element does not count
abbrev pub element_atoms : List ℕ → List TextPair → (inner : List Atom) → List Atom
element_atoms name attrs inner = if is_line_break name then break ∷ []
    else bordered_atoms (has_border name attrs)
    (if is_replaced name then object name ∷ [] else inner)

abbrev pub plains_atoms : (preserved : Bool) → Plains → List Atom
plains_atoms preserved no_plains = []
plains_atoms preserved (plain (words t) ps) = text_atoms preserved t ++ plains_atoms preserved ps
plains_atoms preserved (plain (branch name attrs kids) ps) =
    element_atoms name attrs (plains_atoms (preserved || preserves name attrs) kids)
    ++ plains_atoms preserved ps

-- a visible piece
pub data Piece : Type 0 where
  char : (c : ℕ) → Piece
  thing : (name : List ℕ) → Piece
  line : Piece
  edge : Piece

-- there is an atom that is neither ignorable nor collapsible, and the first such atom is visible,
-- an object or kept
abbrev pub is_supported_by : List Atom → Bool
is_supported_by [] = false
is_supported_by (visible c ∷ as') = true
is_supported_by (ignorable c ∷ as') = is_supported_by as'
is_supported_by (collapsible c ∷ as') = is_supported_by as'
is_supported_by (kept c ∷ as') = true
is_supported_by (object name ∷ as') = true
is_supported_by (break ∷ as') = false
is_supported_by (border ∷ as') = false

-- the last atom that is not ignorable is visible, an object or kept, if `before` says so of the
-- atoms before this one
abbrev pub then_supports : (before : Bool) → Atom → Bool
then_supports before (visible c) = true
then_supports before (ignorable c) = before
then_supports before (collapsible c) = false
then_supports before (kept c) = true
then_supports before (object name) = true
then_supports before break = false
then_supports before border = false

-- a collapsible blank is visible as a space if the atoms before and after it support it
abbrev pub atom_pieces : (before after : Bool) → Atom → List Piece
atom_pieces before after (visible c) = char c ∷ []
atom_pieces before after (ignorable c) = char c ∷ []
atom_pieces before after (collapsible c) = if after && before then char 32 ∷ [] else []
atom_pieces before after (kept c) = char c ∷ []
atom_pieces before after (object name) = thing name ∷ []
atom_pieces before after break = line ∷ []
atom_pieces before after border = edge ∷ []

abbrev pub atoms_pieces : (before : Bool) → List Atom → List Piece
atoms_pieces before [] = []
atoms_pieces before (a ∷ as') = atom_pieces before (is_supported_by as') a
    ++ atoms_pieces (then_supports before a) as'

-- neighbouring edges become one
abbrev pub merged_edges : (after_edge : Bool) → List Piece → List Piece
merged_edges after_edge [] = []
merged_edges after_edge (char c ∷ ps) = char c ∷ merged_edges false ps
merged_edges after_edge (thing name ∷ ps) = thing name ∷ merged_edges false ps
merged_edges after_edge (line ∷ ps) = line ∷ merged_edges false ps
merged_edges after_edge (edge ∷ ps) = if after_edge then merged_edges true ps
    else edge ∷ merged_edges true ps

abbrev pub collapsed_pieces : List Atom → List Piece
collapsed_pieces as' = merged_edges false (atoms_pieces false as')
