-- The tree with anchors in one walk, whose state holds what waits for a server: the locations of
-- the start tags and, for each location, the label of its first one. It equals the definition by
-- groups (`OneWalkServes`, proved).
use Rattle.std.specs.Prelude.{◌≡◌, ℕ, Bool, ◌==◌, if◌then◌else◌, List, ◌++◌, [], ◌∷◌, Option, Some, None}
use Rattle.html_dom_tree.specs.Attributes.{or_else}
use Rattle.html_dom_tree.specs.Tree.{starts, ends, NodeView, tag_node, text_node, element_node, frame_node, NodesView, none, node, ElementView}
use Rattle.html_names_core.specs.Names.{stands_in}
use Rattle.html_links.specs.TreeNames.{Name, with_used_name, first_id, element_names}
use Rattle.html_anchors.specs.Anchors.{with_id, named_frame, text_in_span, span_before, element_with_anchors, anchor_of}
use Rattle.html_anchors.specs.{Events.{Targets, FrameStart, frame_starts}, Namings.{start_pairs}, NewNames.{new_name}}

pub record WalkState : Type 0 where
  -- the locations of the start tags that wait, in order
  pub waiting : List ℕ
  -- the label of the first start tag of each location that waits
  pub labels : ℕ → Option (Option Name)
  pub used : Name → Bool
  -- the last name of each location
  pub answers : ℕ → Option Name

abbrev pub with_entry : {A : Type 0} → ℕ → A → (ℕ → Option A) → ℕ → Option A
with_entry l a map k = if l == k then Some a else map k

-- a start tag waits; of several with one location the first label stays
abbrev pub with_waiting : ℕ → Option Name → WalkState → WalkState
with_waiting l label st = record st {
  waiting = st.waiting ++ l ∷ [];
  labels = λ k. or_else (st.labels k) (if l == k then Some label else None);
}

abbrev pub after_tag_start : (is_target : Bool) → ℕ → Option Name → WalkState → WalkState
after_tag_start is_target l label st = if is_target then with_waiting l label st else st

-- the label of the first start tag that waits, if one does
abbrev pub label_at : (ℕ → Option (Option Name)) → List ℕ → Option (Option Name)
label_at labels [] = None
label_at labels (l ∷ ls) = labels l

abbrev pub first_waiting : WalkState → Option (Option Name)
first_waiting st = label_at st.labels st.waiting

abbrev pub put_each : Name → List ℕ → (ℕ → Option Name) → ℕ → Option Name
put_each n [] answers = answers
put_each n (l ∷ ls) answers = put_each n ls (with_entry l n answers)

-- the state after all that wait got the name
abbrev pub with_answers : Name → WalkState → WalkState
with_answers n st = record st {
  waiting = [];
  labels = λ l. None;
  answers = put_each n st.waiting st.answers;
}

-- the name that is made for a server, from the label that waits and its own name
abbrev pub made_now :
    Option (Option Name) → (own : Option Name) → (used : Name → Bool) → Option Name
made_now None own used = None
made_now (Some label) (Some n) used = None
made_now (Some label) None used = Some (new_name label used)

abbrev pub with_used : (used : Name → Bool) → WalkState → WalkState
with_used used st = record st { used = used }

-- the state after a server
abbrev pub after_server : Option (Option Name) → (own : Option Name) → WalkState → WalkState
after_server None own st = st
after_server (Some label) (Some n) st = with_answers n st
after_server (Some label) None st =
    let n = new_name label st.used in with_answers n (with_used (with_used_name n st.used) st)

-- the effect of a server, from the label that waits and its own name
pub record Serves (old new : WalkState) (waiting : Option (Option Name)) (own made : Option Name) :
    Type 0 where
  pub state : new ≡ after_server waiting own old
  pub name : made ≡ made_now waiting own old.used

-- the state after the start tags of a frame, one after the other
abbrev pub after_start : FrameStart → WalkState → WalkState
after_start s st =
    let n = new_name s.label st.used in
    record st { used = with_used_name n st.used; answers = with_entry s.location n st.answers }

abbrev pub after_starts : List FrameStart → WalkState → WalkState
after_starts [] st = st
after_starts (s ∷ ss) st = after_starts ss (after_start s st)

-- nodes, and the state after them
abbrev pub Walked : Type 0
Walked = NodesView × WalkState

abbrev pub node_before : NodeView → Walked → Walked
node_before n w = (node n w.0, w.1)

unfoldable pub walk : Targets → NodesView → WalkState → Walked
walk x none st = (none, st)
walk x (node (tag_node (starts l label dest)) ns) st =
    node_before (tag_node (starts l label dest)) (walk x ns (after_tag_start (x.is_target l) l label st))
walk x (node (tag_node (ends l)) ns) st =
    let waiting = st.labels l in
    let rest = walk x ns (after_server waiting None st) in
    (node (tag_node (ends l)) (span_before (made_now waiting None st.used) rest.0), rest.1)
walk x (node (text_node s span) ns) st =
    let waiting = first_waiting st in
    node_before (text_in_span (made_now waiting None st.used) s span)
    (walk x ns (after_server waiting None st))
walk x (node (element_node h kids) ns) st =
    let waiting = first_waiting st in
    let own = first_id h in
    let inside = walk x kids (after_server waiting own st) in
    node_before (element_node (with_id (made_now waiting own st.used) h) inside.0)
    (walk x ns inside.1)
walk x (node (frame_node f) ns) st =
    let waiting = first_waiting st in
    let ss = frame_starts x f.inner in
    let after = after_server waiting f.id st in
    node_before
    (frame_node (named_frame (made_now waiting f.id st.used) (start_pairs after.used ss) f))
    (walk x ns (after_starts ss after))

-- the state at first: nothing waits, and nothing is named yet
abbrev pub at_first : (used : Name → Bool) → WalkState
at_first used = record { waiting = []; labels = λ l. None; used = used; answers = λ l. None }

abbrev pub element_walk : Targets → ElementView → Walked
element_walk x e = walk x e.1 (at_first (stands_in (element_names e)))

-- one walk yields the tree and the names of the groups
abbrev pub OneWalkServes : Type 0
OneWalkServes = (x : Targets) (e : ElementView) → ((e.0, (element_walk x e).0) ≡ element_with_anchors x e)
    × ((l : ℕ) → (element_walk x e).1.answers l ≡ anchor_of x e l)
