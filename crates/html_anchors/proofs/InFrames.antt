-- Start tags of a frame, one item after the other.
use Rattle.std.proofs.Common.{◌≡◌, ℕ, suc, ◌+◌, ◌<◌, ◌≤◌, Bool, true, false, List, [], ◌∷◌, ◌++◌, length, get_or, drop, refl, ap, sym, ◌∙◌, append_assoc, add-one, drop-cons, Option, Some, None}
use Rattle.std.proofs.lemmas.List.{append-nil, drop_all}
use Rattle.html_dom_tree.specs.FrameViews.{point_view, frame_item_view, frame_items_view}
use Rattle.html_dom_tree.specs.Frames.{PointView, frame, FrameItemsView, no_frame_items, placed_item, FrameItemView, tag_item, group_item, link_item, other_item}
use Rattle.html_dom_tree.specs.{Tags.{starts, ends}, declared.frame.FrameItem.{FrameItem}, declared.frame.Point.{Point}}
use Rattle.html_links.specs.TreeNames.{Name}
use Rattle.html_anchors.{proofs.Steps.{after_starts-append, start_pairs-append}, specs.AnchorWalk.{WalkState, after_start, after_starts}}
use Rattle.html_anchors.specs.{Events.{Targets, FrameStart, with_frame_start, items_starts}, Joined.{named_at, InFrame, with_starts}}
use Rattle.html_anchors.specs.{Namings.{start_pairs, used_after_starts}, NewNames.{new_name}}

starts_used : (ss : List FrameStart) (st : WalkState) →
    (after_starts ss st).used ≡ used_after_starts st.used ss
starts_used [] st = refl
starts_used (s ∷ ss) st = starts_used ss (after_start s st)

pub with_starts-none : (w : InFrame) → with_starts [] w ≡ w
with_starts-none w = ap (λ ps. (w.0, ps)) (append-nil w.1)

pub with_starts-append : (ss ts : List FrameStart) (w : InFrame) →
    with_starts (ss ++ ts) w ≡ with_starts ts (with_starts ss w)
with_starts-append ss ts w =
    let u = used_after_starts w.0.used ss in
    rw (after_starts-append ss ts w.0, start_pairs-append ss ts w.0.used, starts_used ss w.0)
    (ap (λ ps. (after_starts ts (after_starts ss w.0), ps))
    (sym (append_assoc w.1 (start_pairs w.0.used ss) (start_pairs u ts))))

pub starts_split : (x : Targets) (p : PointView) (c : FrameItemView) (is : FrameItemsView) →
    items_starts x (placed_item p c is)
    ≡ items_starts x (placed_item p c no_frame_items) ++ items_starts x is
unfolding items_starts
starts_split x p (tag_item (starts l label dest)) is = by (x.is_target l) (x.points l)
  where
    by : (b : Bool) (at : Option PointView) →
        with_frame_start b at l label (items_starts x is)
        ≡ with_frame_start b at l label [] ++ items_starts x is
    by b None = refl
    by true (Some q) = refl
    by false (Some q) = refl
starts_split x p (tag_item (ends l)) is = refl
starts_split x p (group_item (frame picture items)) is =
    ap (λ ss. ss ++ items_starts x is) (sym (append-nil (items_starts x items)))
starts_split x p (link_item dest) is = refl
starts_split x p other_item is = refl

abbrev pub starts_from : Targets → List (Point × FrameItem) → List FrameStart
starts_from x items = items_starts x (frame_items_view items)

pub item_named : (x : Targets) (items : List (Point × FrameItem)) (i : ℕ)
    (d : Point × FrameItem) (old new all : InFrame) → i < length items →
    with_starts (starts_from x (drop i items)) old ≡ all →
    (let it = get_or items i d in new ≡ with_starts
    (items_starts x (placed_item (point_view it.0) (frame_item_view it.1) no_frame_items)) old) →
    with_starts (starts_from x (drop (i + 1) items)) new ≡ all
item_named x items i d old new all h so_far more =
    let it = get_or items i d in
    let rest = drop (suc i) items in
    let first =
    items_starts x (placed_item (point_view it.0) (frame_item_view it.1) no_frame_items) in
    rw (add-one, more)
    (sym (with_starts-append first (starts_from x rest) old)
    ∙ (ap (λ ss. with_starts ss old)
    (sym (starts_split x (point_view it.0) (frame_item_view it.1) (frame_items_view rest)))
    ∙ (ap (λ xs. with_starts (starts_from x xs) old) (sym (drop-cons items i d h)) ∙ so_far)))

pub items_named : (x : Targets) (items : List (Point × FrameItem)) (i : ℕ)
    (now all : InFrame) → length items ≤ i →
    with_starts (starts_from x (drop i items)) now ≡ all → now ≡ all
unfolding items_starts
items_named x items i now all h e =
    sym (with_starts-none now)
    ∙ (ap (λ xs. with_starts (starts_from x xs) now) (sym (drop_all i items h)) ∙ e)

-- what stands alone: the start tag of a target that has a point, of one that has none, of no
-- target, and an end tag
abbrev alone : Targets → PointView → FrameItemView → List FrameStart
alone x p c = items_starts x (placed_item p c no_frame_items)

pub start_named : (x : Targets) (p q : PointView) (l : ℕ) (label : Option Name) (dest : Option ℕ)
    (old : InFrame) (name : Name) (st : WalkState) (pairs : List (PointView × Name)) →
    x.is_target l ≡ true → x.points l ≡ Some q → name ≡ new_name label old.0.used →
    st ≡ named_at l name old.0 → pairs ≡ old.1 ++ (q, name) ∷ [] →
    (st, pairs) ≡ with_starts (alone x p (tag_item (starts l label dest))) old
unfolding items_starts
start_named x p q l label dest old name st pairs target point is state pushed =
    rw (target, point, state, pushed, is) refl

pub no_target : (x : Targets) (p : PointView) (l : ℕ) (label : Option Name) (dest : Option ℕ)
    (old : InFrame) → x.is_target l ≡ false →
    old ≡ with_starts (alone x p (tag_item (starts l label dest))) old
unfolding items_starts
no_target x p l label dest old e = rw e (by (x.points l))
  where
    by : (at : Option PointView) → old ≡ with_starts (with_frame_start false at l label []) old
    by None = sym (with_starts-none old)
    by (Some q) = sym (with_starts-none old)

pub no_point : (x : Targets) (p : PointView) (l : ℕ) (label : Option Name) (dest : Option ℕ)
    (old : InFrame) → x.points l ≡ None →
    old ≡ with_starts (alone x p (tag_item (starts l label dest))) old
unfolding items_starts
no_point x p l label dest old e = rw e (sym (with_starts-none old))

pub end_passes : (x : Targets) (p : PointView) (l : ℕ) (old : InFrame) →
    old ≡ with_starts (alone x p (tag_item (ends l))) old
unfolding items_starts
end_passes x p l old = sym (with_starts-none old)
