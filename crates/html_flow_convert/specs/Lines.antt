-- A walk along the things of a line.
use Rattle.std.specs.Prelude.{◌≡◌, ℕ, ◌+◌, ◌≤◌, Bool, true, false, ◌&&◌, List, [], ◌∷◌, ◌++◌, Some, None, if◌then◌else◌}
use Rattle.html_dom_tree.specs.Tree.{NodesView}
use Rattle.html_dom_flat.specs.{Flat.{FlatNodeView, nodes_flat}, declared.flat_node.FlatNode.{FlatNode}}
use Rattle.html_dom_flat.specs.declared.flat_node.FlatNode.TheVariants as flat
use Rattle.html_flow_convert.specs.BareSpaces.{Thing, visible, space, bare_after, bare_spaces, is_visible_first, nodes_things, nodes_turns}
use Rattle.html_flow_convert.specs.{Looks.{is_inside}, declared.look.Look.{Look}}
use Rattle.html_flow_convert.specs.declared.look.Look.TheVariants as look
use Rattle.html_flow_convert.specs.declared.line.Last.{Last}
use Rattle.html_flow_convert.specs.declared.line.Last.TheVariants as last

-- whether a space after it stands in a line
abbrev pub is_within : Last → Bool
is_within last.Border = false
is_within last.Visible = true
is_within (last.Space in_line) = true

-- what stands last after one more
abbrev pub last_after : Last → Look → Last
last_after l look.Border = last.Border
last_after l look.Visible = last.Visible
last_after l look.Space = last.Space (is_within l)
last_after l look.Nothing = l
last_after l look.Inside = l

-- whether a space that stands last is bare, given whether something visible stands after it; no
-- entry if none stands last
abbrev pub space_answer : Last → (is_visible : Bool) → List Bool
space_answer last.Border is_visible = []
space_answer last.Visible is_visible = []
space_answer (last.Space in_line) is_visible = (in_line && is_visible) ∷ []

abbrev pub answer_before : Last → Look → List Bool
answer_before l look.Border = space_answer l false
answer_before l look.Visible = space_answer l true
answer_before l look.Space = space_answer l false
answer_before l look.Nothing = []
answer_before l look.Inside = []

-- whether a space that stands last and those after it are bare
abbrev pub answers_left : Last → List Thing → List Bool
answers_left last.Border ts = bare_after None ts
answers_left last.Visible ts = bare_after (Some visible) ts
answers_left (last.Space in_line) ts =
    (in_line && is_visible_first ts) ∷ bare_after (Some space) ts

-- the index after a node and everything in it
abbrev pub place_past : (place : ℕ) → FlatNode → ℕ
place_past place (flat.Tag t) = place + 1
place_past place (flat.Text s span) = place + 1
place_past place (flat.Frame f) = place + 1
place_past place (flat.Element e) = e.past

-- the index of the next node to look at
abbrev pub next_place : (place : ℕ) → Look → FlatNode → ℕ
next_place place l f = if is_inside l then place + 1 else place_past place f

-- the walk over the list of those nodes stands at an index: the entries and the turns that are left
-- are those of the rest
pub record Stands (whole : NodesView) (place : ℕ) (list : List FlatNodeView) (l : Last)
    (bare : List Bool) (turns : ℕ) : Type 0 where
  pub rest : NodesView
  pub list_is : list ≡ nodes_flat place rest
  pub answers : bare ++ answers_left l (nodes_things rest) ≡ bare_spaces whole
  pub count : turns + nodes_turns rest ≡ nodes_turns whole
  pub few : turns ≤ place
