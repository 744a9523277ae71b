-- The names of places, as they are put into a set.
use Rattle.std.proofs.Common.{◌≡◌, ℕ, suc, ◌+◌, ◌≤◌, ◌<◌, Bool, true, false, List, [], ◌∷◌, ◌++◌, length, get_or, drop, ap, refl, sym, ◌∙◌, add-one, drop-cons, String, Global}
use Rattle.std.{proofs.lemmas.List.{append-nil, drop_all}, specs.Prelude.{not}}
use Rattle.html_names_core.specs.{Names.{stands_in}, Texts.{text_view}}
use Rattle.html_dom_tree.specs.{FrameViews.{anchors_view}, Tree.{Head, NodesView, ElementView}, declared.frame.Point.{Point}}
use Rattle.html_dom_walk.{proofs.Passing.{past_is}, specs.Events.{Placed, tag, text, frame, enter, leave, events_of}, specs.Passing.{Goes, past}}
use Rattle.html_links.proofs.Gathering.{with-all, with-append, with-none}
use Rattle.html_links.specs.InDocument.{element_part, kept, keeps, node_part, nodes_part}
use Rattle.html_links.specs.Indicated.{element_places, nodes_places, place_names}
use Rattle.html_links.specs.{TreeNames.{Name, anchor_names, frame_names, gathered_names}, UsedNames.{with_names}}

-- anchors from an index on are the one there, and those behind it
pub anchors_in_turn : (xs : List (Point × String Global)) (i : ℕ) (x : Point × String Global) →
    i < length xs → x ≡ get_or xs i x →
    anchor_names (anchors_view (drop i xs))
    ≡ text_view x.1 ∷ anchor_names (anchors_view (drop (i + 1) xs))
anchors_in_turn xs i x within is =
    ap (λ l. anchor_names (anchors_view l)) (drop-cons xs i x within)
    ∙ (ap (λ y. text_view y.1 ∷ anchor_names (anchors_view (drop (suc i) xs))) (sym is)
    ∙ ap (λ k. text_view x.1 ∷ anchor_names (anchors_view (drop k xs))) (sym (add-one i)))

pub both_put : (as' bs : List Name) (old mid new : Name → Bool) →
    mid ≡ with_names as' old → new ≡ with_names bs mid → new ≡ with_names (as' ++ bs) old
both_put as' bs old mid new first next =
    next ∙ (ap (with_names bs) first ∙ sym (with-append as' bs old))

pub one_anchor_put : (xs : List (Point × String Global)) (i : ℕ) (x : Point × String Global)
    (old new all : Name → Bool) → i < length xs → x ≡ get_or xs i x →
    with_names (anchor_names (anchors_view (drop i xs))) old ≡ all →
    new ≡ with_names (text_view x.1 ∷ []) old →
    with_names (anchor_names (anchors_view (drop (i + 1) xs))) new ≡ all
one_anchor_put xs i x old new all within is so_far more =
    both_put (text_view x.1 ∷ []) (anchor_names (anchors_view (drop (i + 1) xs))) old new _ more refl
    ∙ (ap (λ l. with_names l old) (sym (anchors_in_turn xs i x within is)) ∙ so_far)

pub no_anchor_put : (xs : List (Point × String Global)) (i : ℕ) (used all : Name → Bool) →
    length xs ≤ i → with_names (anchor_names (anchors_view (drop i xs))) used ≡ all → used ≡ all
no_anchor_put xs i used all past so_far =
    sym (with-none used)
    ∙ (ap (λ l. with_names (anchor_names (anchors_view l)) used) (sym (drop_all i xs past)) ∙ so_far)

-- what a loop over a walk puts in use

abbrev pub with_event : (used : Name → Bool) → Placed → Name → Bool
with_event used (path, enter h kids) = with_names (place_names h.name h.attrs) used
with_event used (path, frame f) = with_names (frame_names f) used
with_event used (path, tag t) = used
with_event used (path, text s span) = used
with_event used (path, leave) = used

-- whatever the state, what is below an element is left out if it does not belong to the part
abbrev pub leaves_out : {S : Type 0} → (whole : Bool) → S → Head → Bool
leaves_out whole s h = not (keeps whole h.name)

abbrev part_put : (whole : Bool) → (parent : List ℕ) → (index : ℕ) → (used : Name → Bool) →
    NodesView → Name → Bool
part_put whole parent index used ns = with_names (nodes_places (nodes_part whole ns)) used

kept_put : (is_kept : Bool) (own : List Name) (part : NodesView) (later : List Name)
    (used : Name → Bool) → not is_kept ≡ false →
    with_names (own ++ (nodes_places (kept is_kept part) ++ later)) used
    ≡ with_names later (with_names (nodes_places part) (with_names own used))
kept_put true own part later used is =
    with-append own (nodes_places part ++ later) used
    ∙ with-append (nodes_places part) later (with_names own used)
kept_put false own part later used is = cc

left_out_put : (is_kept : Bool) (own : List Name) (part : NodesView) (later : List Name)
    (used : Name → Bool) → not is_kept ≡ true →
    with_names (own ++ (nodes_places (kept is_kept part) ++ later)) used
    ≡ with_names later (with_names own used)
unfolding gathered_names
left_out_put true own part later used is = cc
left_out_put false own part later used is = with-append own later used

goes_on : (whole : Bool) → Goes with_event (leaves_out whole) (part_put whole)
unfolding gathered_names nodes_part node_part
goes_on whole = record {
  at_none = λ parent index used. with-none used;
  at_tag = λ parent index used t ns. refl;
  at_text = λ parent index used s span ns. refl;
  at_frame = λ parent index used f ns.
      with-append (frame_names f) (nodes_places (nodes_part whole ns)) used;
  at_element = λ parent index used h kids ns is.
      kept_put (keeps whole h.name) (place_names h.name h.attrs) (nodes_part whole kids)
      (nodes_places (nodes_part whole ns)) used is;
  at_skipped = λ parent index used h kids ns is.
      left_out_put (keeps whole h.name) (place_names h.name h.attrs) (nodes_part whole kids)
      (nodes_places (nodes_part whole ns)) used is;
}

-- a root's names and those below it, if they belong to the part
pub root_put : (whole : Bool) (e : ElementView) (used : Name → Bool) → keeps whole e.0.name ≡ true →
    used ≡ with_names (place_names e.0.name e.0.attrs) (stands_in []) →
    past with_event (leaves_out whole) 0 used (events_of [] 0 e.1 [])
    ≡ stands_in (element_places (element_part whole e))
root_put whole e used is first =
    let own = place_names e.0.name e.0.attrs in
    let part = nodes_part whole e.1 in
    past_is with_event (leaves_out whole) (part_put whole) (goes_on whole) [] 0 used e.1 []
    ∙ (both_put own (nodes_places part) (stands_in []) used (with_names (nodes_places part) used)
    first refl
    ∙ (with-all (own ++ nodes_places part)
    ∙ ap (λ b. stands_in (own ++ nodes_places (kept b part))) (sym is)))

-- and its names alone, if they do not
pub root_alone : (whole : Bool) (e : ElementView) (used : Name → Bool) →
    keeps whole e.0.name ≡ false →
    used ≡ with_names (place_names e.0.name e.0.attrs) (stands_in []) →
    used ≡ stands_in (element_places (element_part whole e))
unfolding gathered_names
root_alone whole e used is first =
    let own = place_names e.0.name e.0.attrs in
    first ∙ (with-all own ∙ (ap stands_in (sym (append-nil own))
    ∙ ap (λ b. stands_in (own ++ nodes_places (kept b (nodes_part whole e.1)))) (sym is)))
