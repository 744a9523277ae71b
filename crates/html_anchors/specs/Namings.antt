-- The names made at each event, given the names in use: those of the tree, and all made before.
use Rattle.std.specs.Prelude.{ℕ, Bool, List, [], ◌∷◌, ◌++◌, ◌==◌, if◌then◌else◌, Option, Some, None}
use Rattle.html_dom_tree.specs.{Attributes.{or_else}, Frames.{PointView}}
use Rattle.html_links.specs.TreeNames.{Name, with_used_name}
use Rattle.html_anchors.specs.{Events.{Start, FrameStart, Event, html_frame}, Groups.{Cut, own_name, label_for}, NewNames.{new_name}}

pub record Naming : Type 0 where
  -- the new name of a server that has none
  pub made : Option Name
  -- the pairs added to the anchors of a frame
  pub pairs : List (PointView × Name)
  -- the names that locations get
  pub answers : List (ℕ × Name)

abbrev pub made_for : (own label : Option Name) (used : Name → Bool) → List Start → Option Name
made_for own label used [] = None
made_for (Some n) label used (s ∷ ss) = None
made_for None label used (s ∷ ss) = Some (new_name label used)

-- the locations of the group's start tags, each with that name
abbrev pub group_answers : Option Name → List Start → List (ℕ × Name)
group_answers None group = []
group_answers (Some n) [] = []
group_answers (Some n) (s ∷ ss) = (s.location, n) ∷ group_answers (Some n) ss

abbrev pub starts_in : Event → List FrameStart
starts_in (html_frame id inside) = inside
starts_in e = []

-- the points of start tags in a frame, each with a new name of its own
abbrev pub start_pairs : (used : Name → Bool) → List FrameStart → List (PointView × Name)
start_pairs used [] = []
start_pairs used (s ∷ ss) =
    let n = new_name s.label used in (s.point, n) ∷ start_pairs (with_used_name n used) ss

abbrev pub start_answers : (used : Name → Bool) → List FrameStart → List (ℕ × Name)
start_answers used [] = []
start_answers used (s ∷ ss) =
    let n = new_name s.label used in (s.location, n) ∷ start_answers (with_used_name n used) ss

-- the names in use after these start tags
abbrev pub used_after_starts : (used : Name → Bool) → List FrameStart → Name → Bool
used_after_starts used [] = used
used_after_starts used (s ∷ ss) = used_after_starts (with_used_name (new_name s.label used) used) ss

abbrev pub made_at : (used : Name → Bool) → Cut → Option Name
made_at used c = made_for (own_name c.event) (label_for c.event c.group) used c.group

abbrev pub with_made : Option Name → (used : Name → Bool) → Name → Bool
with_made None used = used
with_made (Some n) used = with_used_name n used

-- the names in use after the server's name is made, which precedes those of a frame's start tags
abbrev pub used_after_made : (used : Name → Bool) → Cut → Name → Bool
used_after_made used c = with_made (made_at used c) used

abbrev pub naming : (used : Name → Bool) → Cut → Naming
naming used c = record {
  made = made_at used c;
  pairs = start_pairs (used_after_made used c) (starts_in c.event);
  answers = group_answers (or_else (own_name c.event) (made_at used c)) c.group
      ++ start_answers (used_after_made used c) (starts_in c.event);
}

abbrev pub used_after : (used : Name → Bool) → Cut → Name → Bool
used_after used c = used_after_starts (used_after_made used c) (starts_in c.event)

-- one naming for each event
abbrev pub namings : (used : Name → Bool) → List Cut → List Naming
namings used [] = []
namings used (c ∷ cs) = naming used c ∷ namings (used_after used c) cs

abbrev pub all_answers : List Naming → List (ℕ × Name)
all_answers [] = []
all_answers (n ∷ ns) = n.answers ++ all_answers ns

-- the last name of a location
abbrev pub last_name : List (ℕ × Name) → ℕ → Option Name
last_name [] l = None
last_name (a ∷ as') l = or_else (last_name as' l) (if a.0 == l then Some a.1 else None)
