-- A document whose root was changed has the changed root.
use Rattle.std.proofs.Common.{◌≡◌, ℕ, zero, suc, Bool, [], refl, sym}
use Rattle.html_dom_tree.specs.Tree.{NodesView, none, node, ElementView, new_element}
use Rattle.html_dom_document.specs.Documents.{DocumentView, document_root, element_at_index, given_root, with_element}
use Rattle.html_anchors.specs.{Anchors.{element_with_anchors, nodes_with_anchors}, Events.{Targets}}
use Rattle.html_anchors.specs.LinkAnchors.{document_with_new_anchors, document_targets}
use Rattle.html_anchors.specs.Links.{Hrefs, document_hrefs, document_with_links, nodes_with_links, root_with_links}

-- an element put at a place stands there, unless there is no place
pub placed : (ns : NodesView) (i : ℕ) (change : ElementView → ElementView)
    → change (new_element []) ≡ new_element []
    → let old = given_root (element_at_index ns i) in
    given_root (element_at_index (with_element ns i (change old)) i) ≡ change old
placed none i change e = sym e
placed (node n ns) zero change e = refl
placed (node n ns) (suc i) change e = placed ns i change e

no_links_in_nothing : (hrefs : Hrefs) →
    root_with_links hrefs (new_element []) ≡ new_element []
unfolding nodes_with_links
no_links_in_nothing hrefs = refl

pub root_has_links : (d : DocumentView) →
    document_root (document_with_links d) ≡ root_with_links (document_hrefs d) (document_root d)
root_has_links d =
    placed d.output.nodes d.output.root (root_with_links (document_hrefs d))
    (no_links_in_nothing (document_hrefs d))

no_anchors_in_nothing : (x : Targets) → element_with_anchors x (new_element []) ≡ new_element []
unfolding element_with_anchors nodes_with_anchors
no_anchors_in_nothing x = refl

pub root_has_anchors : (is_target : ℕ → Bool) (d : DocumentView) →
    document_root (document_with_new_anchors is_target d)
    ≡ element_with_anchors (document_targets is_target d) (document_root d)
root_has_anchors is_target d =
    let x = document_targets is_target d in
    placed d.output.nodes d.output.root (element_with_anchors x) (no_anchors_in_nothing x)
