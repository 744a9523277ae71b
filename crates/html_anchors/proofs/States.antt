-- The cuts and namings of events, with the state of groups between two events.
use Rattle.std.proofs.Common.{◌≡◌, ℕ, suc, Bool, ◌==◌, List, [], ◌∷◌, ◌++◌, length, drop, Option, Some, None, refl, ap, sym, ◌∙◌, length-append}
use Rattle.std.{proofs.lemmas.List.{drop_at}, specs.Prelude.{if◌then◌else◌}}
use Rattle.html_dom_tree.{proofs.Basics.{or_else-assoc, or_else-none}, specs.Attributes.{or_else}}
use Rattle.html_dom_tree.specs.Tree.{starts, ends, tag_node, text_node, element_node, frame_node, NodesView, none, node, ElementView}
use Rattle.html_names_core.specs.Names.{stands_in}
use Rattle.html_links.specs.TreeNames.{Name, element_names}
use Rattle.html_anchors.specs.{Anchors.{nodes_size}, Events.{Start, Event, Targets, events}}
use Rattle.html_anchors.specs.Groups.{waiting_after, cut_at, cuts}
use Rattle.html_anchors.specs.Namings.{Naming, naming, used_after, namings, all_answers, last_name}

-- the group that waits, the names in use, and the last name of each location
pub record Groups : Type 0 where
  pub queue : List Start
  pub used : Name → Bool
  pub answers : ℕ → Option Name

-- nothing waits, and nothing is named yet
abbrev pub at_start : ElementView → Groups
at_start e = record { queue = []; used = stands_in (element_names e); answers = λ l. None }

abbrev pub naming_at : Groups → Event → Naming
naming_at g e = naming g.used (cut_at g.queue e)

-- the state after an event
abbrev pub step : Groups → Event → Groups
step g e = record {
  queue = waiting_after g.queue e;
  used = used_after g.used (cut_at g.queue e);
  answers = λ l. or_else (last_name (naming_at g e).answers l) (g.answers l);
}

abbrev pub finished : Groups → List Event → Groups
finished g [] = g
finished g (e ∷ es) = finished (step g e) es

abbrev pub makes : Groups → List Event → List Naming
makes g [] = []
makes g (e ∷ es) = naming_at g e ∷ makes (step g e) es

pub makes_is : (es : List Event) (g : Groups) → makes g es ≡ namings g.used (cuts g.queue es)
makes_is [] g = refl
makes_is (e ∷ es) g = ap (λ ns. naming_at g e ∷ ns) (makes_is es (step g e))

pub makes-append : (es fs : List Event) (g : Groups) →
    makes g (es ++ fs) ≡ makes g es ++ makes (finished g es) fs
makes-append [] fs g = refl
makes-append (e ∷ es) fs g = ap (λ ns. naming_at g e ∷ ns) (makes-append es fs (step g e))

pub finished-append : (es fs : List Event) (g : Groups) →
    finished g (es ++ fs) ≡ finished (finished g es) fs
finished-append [] fs g = refl
finished-append (e ∷ es) fs g = finished-append es fs (step g e)

length-makes : (es : List Event) (g : Groups) → length (makes g es) ≡ length es
length-makes [] g = refl
length-makes (e ∷ es) g = ap suc (length-makes es (step g e))

pub length-events : (x : Targets) (ns : NodesView) → length (events x ns) ≡ nodes_size ns
unfolding events nodes_size
length-events x none = refl
length-events x (node (tag_node (starts l label dest)) ns) = ap suc (length-events x ns)
length-events x (node (tag_node (ends l)) ns) = ap suc (length-events x ns)
length-events x (node (text_node s span) ns) = ap suc (length-events x ns)
length-events x (node (element_node h kids) ns) =
    ap suc (length-append (events x kids) (events x ns)
    ∙ (rw (length-events x kids, length-events x ns) refl))
length-events x (node (frame_node f) ns) = ap suc (length-events x ns)

-- the namings of an element's children, dropped
pub drop-events : (x : Targets) (ns : NodesView) (g : Groups) (more : List Naming) →
    drop (nodes_size ns) (makes g (events x ns) ++ more) ≡ more
drop-events x ns g more =
    let es = events x ns in
    drop_at (makes g es) more (nodes_size ns) (length-makes es g ∙ length-events x ns)

pub last_name-append : (as' bs : List (ℕ × Name)) (l : ℕ) →
    last_name (as' ++ bs) l ≡ or_else (last_name bs l) (last_name as' l)
last_name-append [] bs l = sym (or_else-none (last_name bs l))
last_name-append (a ∷ as') bs l =
    rw (last_name-append as' bs l)
    (or_else-assoc (last_name bs l) (last_name as' l) (if a.0 == l then Some a.1 else None))

pub finished_answers : (es : List Event) (g : Groups) (l : ℕ) →
    (finished g es).answers l ≡ or_else (last_name (all_answers (makes g es)) l) (g.answers l)
finished_answers [] g l = refl
finished_answers (e ∷ es) g l =
    let later = all_answers (makes (step g e) es) in
    let now = (naming_at g e).answers in
    finished_answers es (step g e) l
    ∙ (sym (or_else-assoc (last_name later l) (last_name now l) (g.answers l))
    ∙ ap (λ a. or_else a (g.answers l)) (sym (last_name-append now later l)))
