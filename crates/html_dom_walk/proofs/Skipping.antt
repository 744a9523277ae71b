-- What is left if the rest of an element is left out, and how many elements are open.
use Rattle.std.proofs.Common.{◌≡◌, ℕ, zero, suc, ◌-◌, ◌≤◌, List, [], ◌∷◌, ◌++◌, true, drop, length, reverse, refl, ap, ◌∙◌, arith}
use Rattle.html_dom_tree.specs.Tree.{tag_node, text_node, element_node, frame_node, NodesView, none, node}
use Rattle.html_dom_tree.specs.{Views.{nodes_view}, declared.node.HtmlNode.{HtmlNode}}
use Rattle.html_dom_walk.specs.{Events.{Placed, tag, text, frame, enter, leave, events_of, from_end, ends}, WalkLaws.{SkipsBelow}}
use Rattle.html_dom_walk.specs.Walks.{events_after, next_in, parent_in}

-- nodes are whole: what is behind them counts
pub past_nodes : (opened : ℕ) (parent : List ℕ) (index : ℕ) (ns : NodesView) (later : List Placed) →
    from_end opened (events_of parent index ns later) ≡ from_end opened later
unfolding events_of
past_nodes opened parent index none later = refl
past_nodes opened parent index (node (tag_node t) ns) later =
    past_nodes opened parent (suc index) ns later
past_nodes opened parent index (node (text_node s span) ns) later =
    past_nodes opened parent (suc index) ns later
past_nodes opened parent index (node (frame_node f) ns) later =
    past_nodes opened parent (suc index) ns later
past_nodes opened parent index (node (element_node h kids) ns) later =
    let path = parent ++ index ∷ [] in
    past_nodes (suc opened) path 0 kids ((path, leave) ∷ events_of parent (suc index) ns later)
    ∙ past_nodes opened parent (suc index) ns later

pub skips_below : SkipsBelow
skips_below parent index ns path later = past_nodes 0 parent index ns ((path, leave) ∷ later)

pub skipped_to : (above : List (List HtmlNode)) (back : List ℕ) →
    from_end 0 (events_after above back) ≡ events_after above back
skipped_to [] back = refl
skipped_to (ns ∷ above) back = refl

pub no_more : (opened : ℕ) (es : List Placed) → length (from_end opened es) ≤ length es
no_more opened [] = omega arith
no_more zero ((path, leave) ∷ later) = omega arith
no_more (suc opened) ((path, leave) ∷ later) = omega (arith, no_more opened later)
no_more opened ((path, enter h kids) ∷ later) = omega (arith, no_more (suc opened) later)
no_more opened ((path, tag t) ∷ later) = omega (arith, no_more opened later)
no_more opened ((path, text s span) ∷ later) = omega (arith, no_more opened later)
no_more opened ((path, frame f) ∷ later) = omega (arith, no_more opened later)

-- whole nodes end no more elements than they enter
pub ends_later : (parent : List ℕ) (index : ℕ) (ns : NodesView) (later : List Placed) →
    ends (events_of parent index ns later) ≡ ends later
unfolding events_of
ends_later parent index none later = refl
ends_later parent index (node (tag_node t) ns) later = ends_later parent (suc index) ns later
ends_later parent index (node (text_node s span) ns) later = ends_later parent (suc index) ns later
ends_later parent index (node (frame_node f) ns) later = ends_later parent (suc index) ns later
ends_later parent index (node (element_node h kids) ns) later =
    let path = parent ++ index ∷ [] in
    let rest = events_of parent (suc index) ns later in
    let back : suc (ends rest) - 1 ≡ ends rest = omega arith in
    ap (λ n. n - 1) (ends_later path 0 kids ((path, leave) ∷ rest))
    ∙ (back ∙ ends_later parent (suc index) ns later)

pub ends_above : (above : List (List HtmlNode)) (back : List ℕ) →
    ends (events_after above back) ≡ length above
ends_above [] back = refl
ends_above (ns ∷ above) back =
    let next = next_in true back in
    ap suc (ends_later (reverse (parent_in true back)) next (nodes_view (drop next ns))
    (events_after above (parent_in true back)) ∙ ends_above above (parent_in true back))
