-- All names that are made are new.
use Rattle.std.proofs.{Common.{◌≡◌, Bool, ◌||◌, List, [], ◌∷◌, ◌++◌, Option, Some, None, refl, ap, ◌∙◌, subst}, Math.Bool.{or-true}}
use Rattle.std.specs.Prelude.{option_to_list}
use Rattle.html_dom_tree.specs.Tree.{ElementView}
use Rattle.html_names_core.specs.Names.{stands_in}
use Rattle.html_links.proofs.Gathering.{with-none, with-one, with-append, with-more}
use Rattle.html_links.specs.{TreeNames.{Name, with_used_name, anchor_names}, UsedNames.{with_names}}
use Rattle.html_anchors.proofs.{Numbers.{new_is_new}, States.{Groups, at_start, step, finished}, Walks.{walk_is}}
use Rattle.html_anchors.specs.{AnchorWalk.{element_walk}, Events.{Start, FrameStart, Event, Targets, events}}
use Rattle.html_anchors.specs.{Fresh.{AreNew, names_made, all_made, MadeAreNew, NamesAreNew}, Groups.{Cut, own_name, cuts}}
use Rattle.html_anchors.specs.Namings.{made_for, starts_in, start_pairs, used_after_starts, with_made, made_at, naming, used_after, namings}
use Rattle.html_anchors.specs.{NewNames.{new_name}, NumberedNames.{IsBounded}}

-- before more were put in use there were no more
bounded_before : (names : List Name) (used : Name → Bool) → IsBounded (with_names names used) →
    IsBounded used
bounded_before names used b = record {
  names = b.names;
  few = b.few;
  holds = λ n e. b.holds n (ap (λ a. stands_in names n || a) e ∙ or-true (stands_in names n));
}

new-append : (as' bs : List Name) (used : Name → Bool) → AreNew used as' →
    AreNew (with_names as' used) bs → AreNew used (as' ++ bs)
new-append [] bs used a b = subst (λ u. AreNew u bs) (with-none used) b
new-append (n ∷ ns) bs used a b =
    (a.0, new-append ns bs (with_used_name n used) a.1 (rw (with-more n ns used) at b))

starts_named : (ss : List FrameStart) (used : Name → Bool) →
    with_names (anchor_names (start_pairs used ss)) used ≡ used_after_starts used ss
starts_named [] used = with-none used
starts_named (s ∷ ss) used =
    let n = new_name s.label used in with-more n _ used ∙ starts_named ss (with_used_name n used)

before_starts : (ss : List FrameStart) (used : Name → Bool) →
    IsBounded (used_after_starts used ss) → IsBounded used
before_starts ss used b =
    bounded_before (anchor_names (start_pairs used ss)) used (rw (starts_named ss used) b)

starts_new : (ss : List FrameStart) (used : Name → Bool) →
    IsBounded (used_after_starts used ss) → AreNew used (anchor_names (start_pairs used ss))
starts_new [] used b = tt
starts_new (s ∷ ss) used b = (
  new_is_new s.label used (before_starts (s ∷ ss) used b),
  starts_new ss (with_used_name (new_name s.label used) used) b,
)

own_named : (made : Option Name) (used : Name → Bool) →
    with_names (option_to_list made) used ≡ with_made made used
own_named None used = with-none used
own_named (Some n) used = with-one n used

own_new : (own label : Option Name) (used : Name → Bool) (q : List Start) → IsBounded used →
    AreNew used (option_to_list (made_for own label used q))
own_new own label used [] b = tt
own_new (Some n) label used (s ∷ ss) b = tt
own_new None label used (s ∷ ss) b = (new_is_new label used b, tt)

naming_named : (used : Name → Bool) (c : Cut) →
    with_names (names_made (naming used c)) used ≡ used_after used c
naming_named used c =
    let made = made_at used c in
    rw (with-append, own_named made used)
    (starts_named (starts_in c.event) (with_made made used))

naming_new : (used : Name → Bool) (c : Cut) → IsBounded (used_after used c) →
    AreNew used (names_made (naming used c))
naming_new used c b =
    let made = made_at used c in
    let ss = starts_in c.event in
    let next = with_made made used in
    let first : IsBounded used =
    bounded_before (option_to_list made) used
    (rw (own_named made used) (before_starts ss next b)) in
    new-append (option_to_list made) (anchor_names (start_pairs next ss)) used
    (own_new (own_name c.event) _ used c.group first)
    (rw (own_named made used) (starts_new ss next b))

-- the names in use after all events
abbrev used_after_all : (used : Name → Bool) → List Cut → Name → Bool
used_after_all used [] = used
used_after_all used (c ∷ cs) = used_after_all (used_after used c) cs

all_named : (cs : List Cut) (used : Name → Bool) →
    with_names (all_made (namings used cs)) used ≡ used_after_all used cs
all_named [] used = with-none used
all_named (c ∷ cs) used =
    rw (with-append, naming_named used c)
    (all_named cs (used_after used c))

all_new : (cs : List Cut) (used : Name → Bool) → IsBounded (used_after_all used cs) →
    AreNew used (all_made (namings used cs))
all_new [] used b = tt
all_new (c ∷ cs) used b =
    let next = used_after used c in
    let later = all_made (namings next cs) in
    new-append (names_made (naming used c)) later used
    (naming_new used c (bounded_before later next (rw (all_named cs next) b)))
    (rw (naming_named used c) (all_new cs next b))

pub names_are_new : NamesAreNew
names_are_new x e b =
    let cs = cuts [] (events x e.1) in all_new cs _ (rw (all_named cs _) at b)

finished_used : (es : List Event) (g : Groups) →
    (finished g es).used ≡ used_after_all g.used (cuts g.queue es)
finished_used [] g = refl
finished_used (e ∷ es) g = finished_used es (step g e)

pub made_in_walk : (x : Targets) (e : ElementView) → IsBounded (element_walk x e).1.used →
    MadeAreNew x e
made_in_walk x e b =
    let g = at_start e in
    let es = events x e.1 in
    all_new (cuts [] es) g.used (rw (walk_is x e.1 g [], finished_used es g) at b)
