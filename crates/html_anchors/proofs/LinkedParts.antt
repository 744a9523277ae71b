-- The links of the part of a tree that stands in its document are those of the tree there.
use Rattle.std.proofs.Common.{◌≡◌, Bool, true, false, List, [], ◌∷◌, refl, ap}
use Rattle.html_dom_tree.specs.Tree.{NodeView, tag_node, text_node, element_node, frame_node, NodesView, none, node, ElementView}
use Rattle.html_links.specs.InDocument.{in_document, kept, keeps, node_part, nodes_part}
use Rattle.html_anchors.specs.Links.{Hrefs, dest_before, node_with_links, nodes_with_links, root_with_links, tag_dest}

same_dest : (after before : List NodeView) (n : NodeView) → dest_before after ≡ dest_before before →
    dest_before (node_part false n ∷ after) ≡ dest_before (n ∷ before)
unfolding node_part
same_dest after before (tag_node t) same = ap (tag_dest t) same
same_dest after before (text_node s span) same = refl
same_dest after before (element_node h kids) same = refl
same_dest after before (frame_node f) same = refl

kept_links : (hrefs : Hrefs) (b : Bool) (kids made : NodesView) →
    made ≡ nodes_with_links hrefs [] kids → kept b made ≡ nodes_with_links hrefs [] (kept b kids)
unfolding nodes_with_links
kept_links hrefs true kids made is = is
kept_links hrefs false kids made is = refl

part_links : (hrefs : Hrefs) (after before : List NodeView) (ns : NodesView) →
    dest_before after ≡ dest_before before →
    nodes_part false (nodes_with_links hrefs before ns)
    ≡ nodes_with_links hrefs after (nodes_part false ns)
unfolding nodes_part node_part nodes_with_links node_with_links
part_links hrefs after before none same = refl
part_links hrefs after before (node (tag_node t) ns) same =
    ap (node (tag_node t))
    (part_links hrefs _ _ ns (same_dest after before (tag_node t) same))
part_links hrefs after before (node (text_node s span) ns) same =
    ap (node (text_node s span)) (part_links hrefs _ _ ns refl)
part_links hrefs after before (node (element_node h kids) ns) same =
    let inside = kept_links hrefs (keeps false h.name) (nodes_part false kids) _
    (part_links hrefs [] [] kids refl) in
    let behind = part_links hrefs (node_part false (element_node h kids) ∷ after)
    (element_node h kids ∷ before) ns refl in
    rw (same, inside, behind) refl
part_links hrefs after before (node (frame_node f) ns) same =
    ap (node (frame_node f)) (part_links hrefs _ _ ns refl)

pub document_links : (hrefs : Hrefs) (e : ElementView) →
    in_document (root_with_links hrefs e) ≡ root_with_links hrefs (in_document e)
document_links hrefs e =
    ap (λ ns. (e.0, ns))
    (kept_links hrefs (keeps false e.0.name) (nodes_part false e.1) _ (part_links hrefs [] [] e.1 refl))
