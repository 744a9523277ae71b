-- The part of a tree that stands in its document.
use Rattle.std.proofs.{Common.{◌≡◌, ◌≤◌, Bool, true, false, ◌||◌, List, ◌++◌, refl, sym, ap, ◌∙◌, arith}, Math.Bool.{or-true}}
use Rattle.html_names_core.specs.Names.{stands_in}
use Rattle.html_dom_tree.specs.Tree.{tag_node, text_node, element_node, frame_node, NodesView, none, node, ElementView}
use Rattle.html_links.proofs.{Differing.{occurrences-append, occurrences-none}, Gathering.{stands-append}}
use Rattle.html_links.specs.Distinct.{occurrences}
use Rattle.html_links.specs.InDocument.{document_places, element_part, in_document, kept, keeps, node_part, nodes_part}
use Rattle.html_links.specs.Indicated.{element_places, nodes_places, place_names}
use Rattle.html_links.specs.TreeNames.{id_names, shown_names, Name, frame_names, gathered_names}

-- the whole tree is one part

whole_nodes : (ns : NodesView) → nodes_part true ns ≡ ns
unfolding nodes_part node_part
whole_nodes none = refl
whole_nodes (node (tag_node t) ns) = ap (node (tag_node t)) (whole_nodes ns)
whole_nodes (node (text_node s span) ns) = ap (node (text_node s span)) (whole_nodes ns)
whole_nodes (node (element_node h kids) ns) = rw (whole_nodes kids, whole_nodes ns) refl
whole_nodes (node (frame_node f) ns) = ap (node (frame_node f)) (whole_nodes ns)

pub whole_tree : (e : ElementView) → element_part true e ≡ e
whole_tree e = ap (λ ns. (e.0, ns)) (whole_nodes e.1)

-- a place in the document is one of the tree

or_three : (o k n k' n' : Bool) → (k ≡ true → k' ≡ true) → (n ≡ true → n' ≡ true) →
    (o || (k || n)) ≡ true → (o || (k' || n')) ≡ true
or_three true k n k' n' ks ns e = refl
or_three false true n k' n' ks ns e = rw (ks refl) refl
or_three false false n k' n' ks ns e = ap (λ b. k' || b) (ns e) ∙ or-true k'

in_three : (as' bs cs : List Name) (n : Name) →
    stands_in (as' ++ (bs ++ cs)) n ≡ (stands_in as' n || (stands_in bs n || stands_in cs n))
in_three as' bs cs n =
    stands-append as' (bs ++ cs) n ∙ ap (λ b. stands_in as' n || b) (stands-append bs cs n)

kept_places : (b : Bool) (part kids : NodesView) (n : Name) →
    (stands_in (nodes_places part) n ≡ true → stands_in (nodes_places kids) n ≡ true) →
    stands_in (nodes_places (kept b part)) n ≡ true → stands_in (nodes_places kids) n ≡ true
unfolding gathered_names stands_in
kept_places true part kids n so e = so e
kept_places false part kids n so e = cc

part_places : (ns : NodesView) (n : Name) → stands_in (nodes_places (nodes_part false ns)) n ≡ true →
    stands_in (nodes_places ns) n ≡ true
unfolding gathered_names nodes_part node_part
part_places none n e = e
part_places (node (tag_node t) ns) n e = part_places ns n e
part_places (node (text_node s span) ns) n e = part_places ns n e
part_places (node (element_node h kids) ns) n e =
    let own = place_names h.name h.attrs in
    let part = nodes_part false kids in
    let inside = kept (keeps false h.name) part in
    in_three own (nodes_places kids) (nodes_places ns) n
    ∙ or_three (stands_in own n) (stands_in (nodes_places inside) n)
    (stands_in (nodes_places (nodes_part false ns)) n) (stands_in (nodes_places kids) n)
    (stands_in (nodes_places ns) n)
    (kept_places (keeps false h.name) part kids n (part_places kids n)) (part_places ns n)
    (sym (in_three own (nodes_places inside) (nodes_places (nodes_part false ns)) n) ∙ e)
part_places (node (frame_node f) ns) n e =
    let own = stands_in (frame_names f) n in
    stands-append (frame_names f) (nodes_places ns) n
    ∙ or_three own false (stands_in (nodes_places (nodes_part false ns)) n) false
    (stands_in (nodes_places ns) n) (λ k. k) (part_places ns n)
    (sym (stands-append (frame_names f) (nodes_places (nodes_part false ns)) n) ∙ e)

pub place_in_tree : (e : ElementView) (n : Name) → stands_in (document_places e) n ≡ true →
    stands_in (element_places e) n ≡ true
place_in_tree e n there =
    let own = place_names e.0.name e.0.attrs in
    let part = nodes_part false e.1 in
    let inside = kept (keeps false e.0.name) part in
    stands-append own (nodes_places e.1) n
    ∙ or_three (stands_in own n) false (stands_in (nodes_places inside) n) false
    (stands_in (nodes_places e.1) n) (λ k. k)
    (kept_places (keeps false e.0.name) part e.1 n (part_places e.1 n))
    (sym (stands-append own (nodes_places inside) n) ∙ there)

-- an id occurs in the document at most as often as in the tree

kept_occurs : (b : Bool) (part kids : NodesView) (n : Name) →
    occurrences (shown_names part) n ≤ occurrences (shown_names kids) n →
    occurrences (shown_names (kept b part)) n ≤ occurrences (shown_names kids) n
unfolding gathered_names
kept_occurs true part kids n so = so
kept_occurs false part kids n so = omega (arith, occurrences-none n)

part_occurs : (ns : NodesView) (n : Name) →
    occurrences (shown_names (nodes_part false ns)) n ≤ occurrences (shown_names ns) n
unfolding gathered_names nodes_part node_part
part_occurs none n = omega arith
part_occurs (node (tag_node t) ns) n = part_occurs ns n
part_occurs (node (text_node s span) ns) n = part_occurs ns n
part_occurs (node (element_node h kids) ns) n =
    let own = id_names h in
    let part = nodes_part false kids in
    let inside = kept (keeps false h.name) part in
    omega (
      arith,
      occurrences-append own (shown_names inside ++ shown_names (nodes_part false ns)) n,
      occurrences-append (shown_names inside) (shown_names (nodes_part false ns)) n,
      occurrences-append own (shown_names kids ++ shown_names ns) n,
      occurrences-append (shown_names kids) (shown_names ns) n,
      kept_occurs (keeps false h.name) part kids n (part_occurs kids n),
      part_occurs ns n,
    )
part_occurs (node (frame_node f) ns) n =
    omega (
      arith,
      occurrences-append (frame_names f) (shown_names (nodes_part false ns)) n,
      occurrences-append (frame_names f) (shown_names ns) n,
      part_occurs ns n,
    )

pub document_occurs : (e : ElementView) (n : Name) → let d = in_document e in
    occurrences (shown_names (node (element_node d.0 d.1) none)) n
    ≤ occurrences (shown_names (node (element_node e.0 e.1) none)) n
unfolding node_part nodes_part
document_occurs e n = part_occurs (node (element_node e.0 e.1) none) n
