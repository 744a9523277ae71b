-- The visible pieces, gathered in one pass over the atoms: a blank is held back until what follows
-- decides whether it is visible.
use Rattle.std.specs.Prelude.{ℕ, Bool, true, false, List, [], ◌∷◌, ◌++◌, map, if◌then◌else◌}
use Rattle.html_dom_tree.specs.{PlainTree.{nodes_normal}, Tree.{NodesView}}
use Rattle.html_dom_shown.specs.Collapsing.{Atom, visible, ignorable, collapsible, kept, object, break, border, Piece, char, thing, line, edge, plains_atoms}
use Rattle.html_page_text.specs.{Parts.{Part, object_part, line_part, edge_part, put_text}, Unseen.{seen_nodes}}

-- complete parts, in which neighbouring edges are one, the text behind them, and whether the last
-- part is an edge
pub record GatheredPage : Type 0 where
  pub parts : List Part
  pub text : List ℕ
  pub after_edge : Bool

abbrev pub empty_page : GatheredPage
empty_page = record { parts = []; text = []; after_edge = false }

-- all parts, if nothing more follows
abbrev pub ended_parts : GatheredPage → List Part
ended_parts p = p.parts ++ put_text p.text []

-- a page with one more part that is no text
abbrev pub with_part : GatheredPage → Part → (after_edge : Bool) → GatheredPage
with_part p x after_edge =
    record { parts = ended_parts p ++ x ∷ []; text = []; after_edge = after_edge }

abbrev pub with_piece : GatheredPage → Piece → GatheredPage
with_piece p (char c) =
    record { parts = p.parts; text = p.text ++ c ∷ []; after_edge = false }
with_piece p (thing name) = with_part p (object_part name) false
with_piece p line = with_part p line_part false
with_piece p edge = if p.after_edge then p else with_part p edge_part true

unfoldable pub with_pieces : GatheredPage → List Piece → GatheredPage
with_pieces p [] = p
with_pieces p (x ∷ xs) = with_pieces (with_piece p x) xs

-- what stands before a point
pub data Before : Type 0 where
  -- nothing that supports a blank
  bare : Before
  support : Before
  -- a blank that has support before it, and the ignorable characters behind it: they are held back
  -- until it is known whether support follows
  blank : (later : List ℕ) → Before

-- the pieces that were held back, given whether support follows
abbrev pub released : (supported : Bool) → Before → List Piece
released supported bare = []
released supported support = []
released true (blank later) = char 32 ∷ map char later
released false (blank later) = map char later

-- an ignorable character is visible, but behind what is held back

abbrev pub ignorable_pieces : Before → ℕ → List Piece
ignorable_pieces bare c = char c ∷ []
ignorable_pieces support c = char c ∷ []
ignorable_pieces (blank later) c = []

abbrev pub past_ignorable : Before → ℕ → Before
past_ignorable bare c = bare
past_ignorable support c = support
past_ignorable (blank later) c = blank (later ++ c ∷ [])

-- the first blank of a row is held back, the others are invisible
abbrev pub past_collapsible : Before → Before
past_collapsible bare = bare
past_collapsible support = blank []
past_collapsible (blank later) = blank later

-- the visible pieces up to an atom, except what is held back
abbrev pub seen_at : Before → Atom → List Piece
seen_at b (visible c) = released true b ++ char c ∷ []
seen_at b (ignorable c) = ignorable_pieces b c
seen_at b (collapsible c) = []
seen_at b (kept c) = released true b ++ char c ∷ []
seen_at b (object name) = released true b ++ thing name ∷ []
seen_at b break = released false b ++ line ∷ []
seen_at b border = released false b ++ edge ∷ []

abbrev pub past : Before → Atom → Before
past b (visible c) = support
past b (ignorable c) = past_ignorable b c
past b (collapsible c) = past_collapsible b
past b (kept c) = support
past b (object name) = support
past b break = bare
past b border = bare

-- the progress so far
pub record Seen : Type 0 where
  pub page : GatheredPage
  pub before : Before

abbrev pub nothing_seen : Seen
nothing_seen = record { page = empty_page; before = bare }

abbrev pub step : Seen → Atom → Seen
step s a = record { page = with_pieces s.page (seen_at s.before a); before = past s.before a }

unfoldable pub run : Seen → List Atom → Seen
run s [] = s
run s (a ∷ as') = run (step s a) as'

abbrev pub border_atoms : Bool → List Atom
border_atoms b = if b then border ∷ [] else []

-- all parts, if no support follows the last atom
abbrev pub final : Seen → List Part
final s = ended_parts (with_pieces s.page (released false s.before))

-- what is visible past the nodes of a list
abbrev pub past_nodes : (preserved : Bool) → Seen → NodesView → Seen
past_nodes preserved s ns = run s (plains_atoms preserved (nodes_normal (seen_nodes ns)))
