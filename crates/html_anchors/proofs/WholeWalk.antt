-- Elements and lists of nodes in the walk, as the program makes them, and the walk over a document.
use Rattle.std.proofs.Common.{◌≡◌, ℕ, ◌+◌, ◌<◌, ◌≤◌, Bool, true, false, ◌||◌, List, [], ◌∷◌, length, get_or, set, take, drop, Option, refl, ap, sym, ◌∙◌, true≢false, arith}
use Rattle.std.proofs.{Math.Path.{fun_ext}, lemmas.List.{drop_all, drop_more, drop-set-lt, take_all, take_more_set}}
use Rattle.std.specs.List.{list_any}
use Rattle.html_dom_tree.specs.Tree.{starts, ends, Head, NodeView, tag_node, text_node, element_node, frame_node, NodesView, none, node}
use Rattle.html_dom_tree.specs.{Views.{node_view, nodes_view}, declared.node.HtmlNode.{HtmlNode}}
use Rattle.html_names_core.specs.Names.{stands_in}
use Rattle.html_dom_document.proofs.Leading.{then_assoc}
use Rattle.html_dom_document.specs.{Documents.{DocumentView, with_root, document_root}, DomIndices.{◌then◌}}
use Rattle.html_dom_document.specs.Introspectors.{IntrospectorView}
use Rattle.html_links.specs.TreeNames.{Name, first_id, element_names}
use Rattle.html_anchors.proofs.{Steps.{then-none, walks_on, nodes_view-push}, Walks.{one_walk_serves}}
use Rattle.html_anchors.specs.AnchorWalk.{WalkState, first_waiting, Serves, after_server, at_first, Walked, walk, element_walk}
use Rattle.html_anchors.specs.{Anchors.{with_id}, Events.{Targets}, Joined.{walked_behind, is_end}}
use Rattle.html_anchors.specs.LinkAnchors.{targets_in, document_targets, document_with_new_anchors, document_anchor}
use Rattle.html_anchors.specs.MadeDocuments.{with_children}

-- an element, which serves all that wait, and what stands in it
pub element_served : (x : Targets) (h head : Head) (kids inside : NodesView)
    (st after last : WalkState) (made : Option Name) →
    Serves st after (first_waiting st) (first_id h) made → head ≡ with_id made h →
    (inside, last) ≡ walk x kids after →
    (node (element_node head inside) none, last) ≡ walk x (node (element_node h kids) none) st
unfolding walk
element_served x h head kids inside st after last made serves named below =
    let joined : Option Name → Walked → Walked =
    λ m w. (node (element_node (with_id m h) w.0) none, w.1) in
    let next = after_server (first_waiting st) (first_id h) st in
    rw named (ap (joined made) (below ∙ ap (walk x kids) serves.state)
    ∙ ap (λ m. joined m (walk x kids next)) serves.name)

-- a node, and what follows it, behind nodes that are made already
pub node_placed : (x : Targets) (n m : NodeView) (more old new : NodesView)
    (st after : WalkState) → (node m more, after) ≡ walk x (node n none) st →
    new ≡ (old then node m more) → (new, after) ≡ walked_behind old (walk x (node n none) st)
node_placed x n m more old new st after step placed = rw placed (ap (walked_behind old) step)

-- one node more of a list
pub node_walked : (x : Targets) (ns others : List HtmlNode) (n : HtmlNode)
    (old new : NodesView) (st after : WalkState) (all : Walked) → ns ≡ n ∷ others →
    walked_behind old (walk x (nodes_view ns) st) ≡ all →
    (new, after) ≡ walked_behind old (walk x (node (node_view n) none) st) →
    walked_behind new (walk x (nodes_view others) after) ≡ all
node_walked x ns others n old new st after all first_is so_far more =
    let rest = nodes_view others in
    let first = walk x (node (node_view n) none) st in
    let last = walk x rest first.1 in
    ap (λ (w : Walked). walked_behind w.0 (walk x rest w.1)) more
    ∙ (ap (λ (ms : NodesView). (ms, last.1)) (then_assoc old first.0 last.0)
    ∙ (ap (walked_behind old) (sym (walks_on x (node (node_view n) none) rest st))
    ∙ (ap (λ ms. walked_behind old (walk x (nodes_view ms) st)) (sym first_is)
    ∙ so_far)))

pub nodes_walked : (x : Targets) (ns : List HtmlNode) (made : NodesView) (st : WalkState)
    (all : Walked) → ns ≡ [] → walked_behind made (walk x (nodes_view ns) st) ≡ all →
    (made, st) ≡ all
unfolding walk
nodes_walked x ns made st all none_left so_far =
    ap (λ (ms : NodesView). (ms, st)) (sym (then-none made))
    ∙ (ap (λ ms. walked_behind made (walk x (nodes_view ms) st)) (sym none_left) ∙ so_far)

-- nothing follows a node that is no end tag
abbrev others : NodesView → NodesView
others none = none
others (node n ns) = ns

alone : (x : Targets) (n : NodeView) (st : WalkState) → is_end n ≡ false →
    others (walk x (node n none) st).0 ≡ none
unfolding walk
alone x (tag_node (starts l label dest)) st other = refl
alone x (tag_node (ends l)) st other = absurd (true≢false other)
alone x (text_node s span) st other = refl
alone x (element_node h kids) st other = refl
alone x (frame_node f) st other = refl

pub node_alone : (x : Targets) (n m : NodeView) (more : NodesView) (st after : WalkState) →
    is_end n ≡ false → (node m more, after) ≡ walk x (node n none) st →
    (node m none, after) ≡ walk x (node n none) st
node_alone x n m more st after other step =
    let nothing : none ≡ more =
    sym (ap (λ (w : Walked). others w.0) step ∙ alone x n st other) in
    ap (λ (ms : NodesView). (node m ms, after)) nothing ∙ step

-- no end tag is among the first of a list, nor among the others
abbrev other_first : (a b : Bool) → a || b ≡ false → (a ≡ false) × (b ≡ false)
other_first false b e = (refl, e)
other_first true b e = absurd (true≢false e)

-- whether an end tag is in a list
abbrev pub has_end : List HtmlNode → Bool
has_end = list_any (λ n. is_end (node_view n))

-- one node more of a list among which no end tag is, changed where it stands
pub node_kept : (x : Targets) (ns new : List HtmlNode) (i : ℕ) (d m : HtmlNode)
    (more : NodesView) (st after : WalkState) (all : Walked) →
    i < length ns → new ≡ set ns i m → has_end (drop i ns) ≡ false →
    walked_behind (nodes_view (take i ns)) (walk x (nodes_view (drop i ns)) st) ≡ all →
    (node (node_view m) more, after) ≡ walk x (node (node_view (get_or ns i d)) none) st →
    (walked_behind (nodes_view (take (i + 1) new)) (walk x (nodes_view (drop (i + 1) new)) after)
    ≡ all) × (has_end (drop (i + 1) new) ≡ false)
node_kept x ns new i d m more st after all h is no_end so_far step =
    let n = get_or ns i d in
    let rest = drop (i + 1) ns in
    let first = drop_more ns i d h in
    let left : drop (i + 1) new ≡ rest =
    ap (drop (i + 1)) is ∙ drop-set-lt (i + 1) ns i m (omega arith) in
    let clear = other_first (is_end (node_view n)) (has_end rest)
    (ap has_end (sym first) ∙ no_end) in
    let old = nodes_view (take i ns) in
    let made : nodes_view (take (i + 1) new) ≡ (old then node (node_view m) none) =
    ap (λ l. nodes_view (take (i + 1) l)) is
    ∙ (ap nodes_view (take_more_set ns i m h) ∙ nodes_view-push (take i ns) m) in
    let alone = node_alone x (node_view n) (node_view m) more st after clear.0 step in (
      ap (λ l. walked_behind (nodes_view (take (i + 1) new)) (walk x (nodes_view l) after)) left
          ∙ node_walked x (drop i ns) rest n old (nodes_view (take (i + 1) new)) st after all first so_far
          (node_placed x (node_view n) (node_view m) none old _ st after alone made),
      ap has_end left ∙ clear.1,
    )

pub nodes_kept : (x : Targets) (ns : List HtmlNode) (i : ℕ) (st : WalkState) (all : Walked) →
    length ns ≤ i →
    walked_behind (nodes_view (take i ns)) (walk x (nodes_view (drop i ns)) st) ≡ all →
    (nodes_view ns, st) ≡ all
nodes_kept x ns i st all h so_far =
    ap (λ (l : List HtmlNode). (nodes_view l, st)) (sym (take_all i ns h))
    ∙ nodes_walked x (drop i ns) (nodes_view (take i ns)) st all (drop_all i ns h) so_far

-- the walk over the root of a document
pub root_walked : (is_target : ℕ → Bool) (d : DocumentView) (known : IntrospectorView)
    (kids : NodesView) (used : Name → Bool) (w : Walked) →
    known ≡ d.introspector → kids ≡ (document_root d).1 →
    used ≡ stands_in (element_names (document_root d)) →
    w ≡ walk (targets_in known is_target) kids (at_first used) →
    w ≡ element_walk (document_targets is_target d) (document_root d)
root_walked is_target d known kids used w known_is kids_are used_is is =
    rw (known_is, kids_are, used_is) at is

pub root_written : (is_target : ℕ → Bool) (d : DocumentView) (w : Walked) →
    w ≡ element_walk (document_targets is_target d) (document_root d) →
    with_children w.0 d ≡ document_with_new_anchors is_target d
root_written is_target d w whole =
    let root = document_root d in
    ap (λ e. record d { output = with_root d.output e })
    (ap (λ (v : Walked). (root.0, v.0)) whole
    ∙ (one_walk_serves (document_targets is_target d) root).0)

pub answers_are : (is_target : ℕ → Bool) (d : DocumentView) (w : Walked) →
    w ≡ element_walk (document_targets is_target d) (document_root d) →
    w.1.answers ≡ document_anchor is_target d
answers_are is_target d w whole =
    ap (λ (v : Walked). v.1.answers) whole
    ∙ fun_ext ((one_walk_serves (document_targets is_target d) (document_root d)).1)
