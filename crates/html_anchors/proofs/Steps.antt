-- The walk goes on where it stopped, as a loop over nodes does.
use Rattle.std.proofs.Common.{◌≡◌, ℕ, Bool, List, [], ◌∷◌, ◌++◌, Option, Some, None, String, Global, Bor, refl, sym, subst, ap, ◌∙◌}
use Rattle.std.specs.{Option.{option_copied}, Prelude.{option_map}}
use Rattle.html_dom_tree.proofs.Basics.{node_view-Text}
use Rattle.html_dom_tree.specs.{Attributes.{or_else}, FrameViews.{optional_text_view}, Frames.{PointView, HtmlFrameView}}
use Rattle.html_dom_tree.specs.Tree.{starts, ends, tag_node, text_node, element_node, frame_node, NodeView, NodesView, none, node}
use Rattle.html_dom_tree.specs.{Views.{text_view, node_view, nodes_view}, declared.node.HtmlNode.{HtmlNode}, declared.span.Span.{Span}}
use Rattle.html_links.specs.TreeNames.{Name, with_used_name}
use Rattle.html_anchors.specs.AnchorWalk.{WalkState, after_tag_start, first_waiting, Serves, made_now, after_server, after_start, after_starts, walk}
use Rattle.html_anchors.specs.{Anchors.{span_before, text_in_span}, Events.{Targets, FrameStart, frame_starts}}
use Rattle.html_anchors.specs.{Joined.{walked_behind, with_starts}, Namings.{start_pairs, used_after_starts}, NewNames.{new_name}}
use Rattle.html_dom_document.{proofs.Leading.{then_assoc}, specs.DomIndices.{◌then◌}}

pub then-none : (ns : NodesView) → (ns then none) ≡ ns
then-none none = refl
then-none (node n ns) = ap (node n) (then-none ns)

span_before-then : (made : Option Name) (as' bs : NodesView) →
    span_before made (as' then bs) ≡ (span_before made as' then bs)
span_before-then None as' bs = refl
span_before-then (Some n) as' bs = refl

pub walks_on : (x : Targets) (as' bs : NodesView) (st : WalkState) → let first = walk x as' st in
    walk x (as' then bs) st ≡ walked_behind first.0 (walk x bs first.1)
unfolding walk
walks_on x none bs st = refl
walks_on x (node (tag_node (starts l label dest)) ns) bs st = rw (walks_on x ns bs _) refl
walks_on x (node (tag_node (ends l)) ns) bs st =
    let made = made_now (st.labels l) None st.used in
    let after = after_server (st.labels l) None st in
    let r = walk x ns after in
    let rest = walk x bs r.1 in
    rw (walks_on x ns bs after)
    (ap (λ ms. (node (tag_node (ends l)) ms, rest.1)) (span_before-then made r.0 rest.0))
walks_on x (node (text_node s span) ns) bs st = rw (walks_on x ns bs _) refl
walks_on x (node (element_node h kids) ns) bs st = rw (walks_on x ns bs _) refl
walks_on x (node (frame_node f) ns) bs st = rw (walks_on x ns bs _) refl

pub after_starts-append : (ss ts : List FrameStart) (st : WalkState) →
    after_starts (ss ++ ts) st ≡ after_starts ts (after_starts ss st)
after_starts-append [] ts st = refl
after_starts-append (s ∷ ss) ts st = after_starts-append ss ts (after_start s st)

pub start_pairs-append : (ss ts : List FrameStart) (used : Name → Bool) →
    start_pairs used (ss ++ ts)
    ≡ start_pairs used ss ++ start_pairs (used_after_starts used ss) ts
start_pairs-append [] ts used = refl
start_pairs-append (s ∷ ss) ts used =
    let n = new_name s.label used in
    ap (λ ps. (s.point, n) ∷ ps) (start_pairs-append ss ts (with_used_name n used))

pub nodes_view-push : (ns : List HtmlNode) (n : HtmlNode) →
    nodes_view (ns ++ n ∷ []) ≡ (nodes_view ns then node (node_view n) none)
nodes_view-push [] n = refl
nodes_view-push (m ∷ ns) n = ap (node (node_view m)) (nodes_view-push ns n)

pub span_placed : (ns : List HtmlNode) (n : HtmlNode) (more : NodesView) →
    (nodes_view (ns ++ n ∷ []) then more) ≡ (nodes_view ns then node (node_view n) more)
span_placed ns n more =
    ap (λ l. l then more) (nodes_view-push ns n)
    ∙ then_assoc (nodes_view ns) (node (node_view n) none) more

-- a text, which serves all that wait
pub text_served : (x : Targets) (s : List ℕ) (span : ℕ) (n : NodeView) (st after : WalkState)
    (made : Option Name) → Serves st after (first_waiting st) None made → n ≡ text_in_span made s span →
    (node n none, after) ≡ walk x (node (text_node s span) none) st
unfolding walk
text_served x s span n st after made serves is = rw (is, serves.name, serves.state) refl

-- a start tag, which waits where its location is a target
pub tag_started : (x : Targets) (l : ℕ) (label : Option Name) (dest : Option ℕ)
    (st after : WalkState) → after ≡ after_tag_start (x.is_target l) l label st →
    let start = node (tag_node (starts l label dest)) none in (start, after) ≡ walk x start st
unfolding walk
tag_started x l label dest st after waits = rw waits refl

-- an end tag, and the `span` that it makes
pub tag_ended : (x : Targets) (l : ℕ) (st after : WalkState) (made : Option Name) →
    Serves st after (st.labels l) None made →
    (node (tag_node (ends l)) (span_before made none), after)
    ≡ walk x (node (tag_node (ends l)) none) st
unfolding walk
tag_ended x l st after made serves = rw (serves.name, serves.state) refl

pub own_is : (own : Option (Bor (String Global))) →
    option_map (λ n. text_view n.now) own ≡ optional_text_view (option_copied own)
own_is None = refl
own_is (Some n) = refl

-- a frame, which serves all that wait
pub frame_served : (x : Targets) (f g : HtmlFrameView) (id : Option Name)
    (pairs : List (PointView × Name)) (st served after : WalkState) (own made : Option Name) →
    Serves st served (first_waiting st) own made → own ≡ f.id → id ≡ or_else f.id made →
    (after, pairs) ≡ with_starts (frame_starts x f.inner) (served, f.anchors) →
    g ≡ record f { id = id; anchors = pairs } →
    (node (frame_node g) none, after) ≡ walk x (node (frame_node f) none) st
unfolding walk
frame_served x f g id pairs st served after own made serves own_id is named frame_is =
    let ss = frame_starts x f.inner in
    let state : after ≡ after_starts ss served = ap (λ w. w.0) named in
    let anchors : pairs ≡ f.anchors ++ start_pairs served.used ss = ap (λ w. w.1) named in
    rw (frame_is, is, anchors, state, serves.name, serves.state, own_id) refl

-- a text while nothing waits
text_alone : (x : Targets) (s : List ℕ) (span : ℕ) (st : WalkState) → st.waiting ≡ [] →
    walk x (node (text_node s span) none) st ≡ (node (text_node s span) none, st)
unfolding walk
text_alone x s span st no_one = rw no_one refl

pub text_kept : (x : Targets) (n : HtmlNode) (s : String Global) (span : Span) (st : WalkState) →
    n ≡ HtmlNode.Text s span → st.waiting ≡ [] →
    walk x (node (node_view n) none) st ≡ (node (node_view n) none, st)
text_kept x n s span st is no_one =
    subst (λ v. walk x (node v none) st ≡ (node v none, st))
    (sym (ap node_view is ∙ node_view-Text s span))
    (text_alone x (text_view s) span.0 st no_one)
