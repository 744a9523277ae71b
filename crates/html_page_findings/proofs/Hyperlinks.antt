-- A tree without hyperlinks has no link to a fragment, so none that is dead.
use Rattle.std.proofs.Common.{◌≡◌, ℕ, suc, Bool, true, false, ◌&&◌, List, [], ◌∷◌, ◌++◌, Option, Some, None, codes, refl}
use Rattle.std.specs.Prelude.{if◌then◌else◌, is_some}
use Rattle.html_dom_tree.specs.{Attributes.{first}, Tree.{Head, tag_node, text_node, element_node, frame_node, NodesView, none, node}}
use Rattle.html_page_findings.specs.{CheckLaws.{NoHyperlinkNoDeadFragment}, Fragments.{dead_among, fragment_links, fragments, fragments_of}}
use Rattle.html_page_findings.specs.Hyperlinks.{HeadIsNoHyperlink, NodesHaveNoHyperlink, may_link}
use Rattle.html_page_findings.specs.PlacedTexts.{head_texts, node_placed, nodes_placed}
use Rattle.html_names_core.specs.Names.{stands_in}
use Rattle.html_links.specs.{Bases.{base_is_elsewhere}, InDocument.{document_places, kept, keeps, node_part, nodes_part}}

no_fragment : (h : Head) → HeadIsNoHyperlink h → head_texts fragments h ≡ []
no_fragment h e = by (may_link h.name) (first h.attrs (codes "href")) e
  where
    by : (links : Bool) (href : Option (List ℕ)) → (links && is_some href) ≡ false →
        (if links then fragments_of href else []) ≡ []
    by true None e = refl
    by true (Some href) e = cc
    by false href e = refl

no_links : (path : List ℕ) (i : ℕ) (ns : NodesView) → NodesHaveNoHyperlink ns →
    nodes_placed fragments path i ns ≡ []
unfolding nodes_placed node_placed
no_links path i none free = refl
no_links path i (node (tag_node t) ns) free = no_links path (suc i) ns free.1
no_links path i (node (text_node s span) ns) free = no_links path (suc i) ns free.1
no_links path i (node (element_node h kids) ns) free =
    rw (no_fragment h free.0.0, no_links (path ++ i ∷ []) 0 kids free.0.1) (no_links path (suc i) ns free.1)
no_links path i (node (frame_node f) ns) free = no_links path (suc i) ns free.1

-- nor has a part of it

kept_free : (b : Bool) (part : NodesView) → NodesHaveNoHyperlink part →
    NodesHaveNoHyperlink (kept b part)
kept_free true part free = free
kept_free false part free = tt

part_free : (ns : NodesView) → NodesHaveNoHyperlink ns → NodesHaveNoHyperlink (nodes_part false ns)
unfolding nodes_part node_part
part_free none free = tt
part_free (node (tag_node t) ns) free = (tt, part_free ns free.1)
part_free (node (text_node s span) ns) free = (tt, part_free ns free.1)
part_free (node (element_node h kids) ns) free = (
  (free.0.0, kept_free (keeps false h.name) (nodes_part false kids) (part_free kids free.0.1)),
  part_free ns free.1,
)
part_free (node (frame_node f) ns) free = (tt, part_free ns free.1)

pub no_hyperlink_no_dead_fragment : NoHyperlinkNoDeadFragment
unfolding node_placed
no_hyperlink_no_dead_fragment e free =
    let keeps_kids = keeps false e.0.name in
    let part = nodes_part false e.1 in
    let inside = kept_free keeps_kids part (part_free e.1 free.1) in
    by (base_is_elsewhere e)
    (rw (no_fragment e.0 free.0, no_links [] 0 (kept keeps_kids part) inside) refl)
  where
    by : (b : Bool) → dead_among (stands_in (document_places e)) (fragment_links e) ≡ [] →
        (if b then [] else dead_among (stands_in (document_places e)) (fragment_links e)) ≡ []
    by true is = refl
    by false is = is
