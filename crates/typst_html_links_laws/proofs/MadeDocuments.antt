-- Items without hyperlinks make documents without: no step on which they are made brings one, nor
-- do the head and the body that are made, styles and anchors.
use Rattle.std.proofs.Common.{ℕ, zero, suc, false, List, [], None, refl, sym, subst, Bool}
use Rattle.html_dom_tree.specs.{Styled.{styled_nodes}, Tree.{Head, NodeView, element_node, NodesView, none, node, ElementView}}
use Rattle.html_dom_document.specs.Documents.{InfoView, DocumentView, document_root, element_at_index, given_root}
use Rattle.html_anchors.proofs.ChangedRoots.{root_has_anchors}
use Rattle.html_anchors.specs.{Anchors.{element_with_anchors}, Events.{Targets}, LinkAnchors.{document_targets}}
use Rattle.html_page_findings.specs.Hyperlinks.{HeadIsNoHyperlink, ElementHasNoHyperlink, NodesHaveNoHyperlink}
use Rattle.html_flow_convert.specs.{Items.{ItemsView}, LoneNode.{node_list}, declared.convert.ConversionLevel.TheVariants.{Block}}
use Rattle.html_flow_convert.specs.declared.convert.Whitespace.TheVariants.{Normal}
use Rattle.typst_html_spaces.proofs.{Anchored.{heads_anchored}, Changed.{holds_then, heads_styled}}
use Rattle.typst_html_spaces.proofs.DeepNodes.{of_converted, Known, HoldsOfItems, of_each, of_both, each_of, HoldsOnTheWay, HoldsOfBoxes, of_text}
use Rattle.typst_html_spaces.specs.Anchored.{NewAttribute, new_id, new_href, with_front_attribute}
use Rattle.typst_html_spaces.specs.DeepNodes.{HoldsOf, HoldsOfAll, Wanted, of_heads}
use Rattle.typst_html_export.proofs.{AnchoredRoots.{root_anchored_by}, Entries.{of_entries}}
use Rattle.typst_html_export.specs.Assembled.{Outline, own_html, nothing_own, document_outline, document_nodes, assembled_document, assembled_output, both_nodes, body_node, html_output, output_by}
use Rattle.typst_html_export.specs.DocumentHead.{entry_nodes, head_node}
use Rattle.typst_html_links_laws.proofs.KeptHeads.{styled_head, head_with_role}
use Rattle.typst_html_links_laws.specs.ItemHyperlinks.{ItemsHaveNoHyperlink, ItemHasNoHyperlink, BodyHasNoHyperlink}
use Rattle.typst_html_links_laws.specs.SoundLinks.{NoHyperlinkIsMade}

-- items

abbrev no_hyperlink : Wanted
no_hyperlink = of_heads HeadIsNoHyperlink (Unit {0})

as_nodes : (ns : NodesView) (p : Bool) → HoldsOfAll no_hyperlink p ns → NodesHaveNoHyperlink ns
as_nodes none p free = tt
as_nodes (node (element_node h kids) ns) p free =
    ((free.0.0, as_nodes kids h.pre_span free.0.1), as_nodes ns p free.1)
as_nodes (node n ns) p free = (tt, as_nodes ns p free.1)

free_way : HoldsOnTheWay no_hyperlink
free_way = record {
  wrap = λ span b. refl;
  blank = λ s e. tt;
  line = λ span. refl;
  block = λ span b. refl;
  lone = λ h kids change free e. free;
}

free_boxes : HoldsOfBoxes no_hyperlink
free_boxes = record { box = λ span b. refl; lone = λ h b change free. free }

abbrev free_items : Known
free_items = record {
  item = λ s role i. ItemHasNoHyperlink i;
  items = λ s role items. ItemsHaveNoHyperlink items;
  body = λ s role body. BodyHasNoHyperlink body;
}

items_free : HoldsOfItems no_hyperlink free_items
items_free = record {
  tag = λ s role t free. tt;
  element = λ s role h body free. (head_with_role role h free.0, free.1);
  space = tt;
  text = λ s role t span free. of_text no_hyperlink free_way (λ u. tt) s t span;
  feed = tt;
  box = λ s role body span free. (free_boxes, free);
  block = λ s role body span free. free;
  frame = λ s role f free. tt;
  first = λ s role i own items free. free;
  inside = λ s role items free. free;
}

abbrev IsFree : NodeView → Type 0
IsFree = HoldsOf no_hyperlink false

abbrev AreFree : NodesView → Type 0
AreFree = HoldsOfAll no_hyperlink false

abbrev RootIsFree : ElementView → Type 0
RootIsFree e = IsFree (element_node e.0 e.1)

-- what stands around nodes

head_free : (info : InfoView) → IsFree (head_node info [])
head_free info =
    let entries = of_entries IsFree (λ t. (refl, (tt, tt))) (λ name content. (refl, tt)) info in
    (refl, ((refl, tt), ((refl, tt), of_both no_hyperlink false (entry_nodes info) [] entries tt)))

html_free : (info : InfoView) (ns : NodesView) → AreFree ns → AreFree (html_output info [] ns).nodes
html_free info ns free = ((refl, (head_free info, free)), tt)

both_free : (ns others : NodesView) → AreFree ns → AreFree others → AreFree (both_nodes ns others)
both_free ns others free more =
    of_both no_hyperlink false (node_list ns) (node_list others) (each_of no_hyperlink false ns free)
    (of_each no_hyperlink false (node_list others) (each_of no_hyperlink false others more))

around_free : (outline : Outline) (info : InfoView) (content notes : NodesView) →
    AreFree content → AreFree notes → AreFree (output_by outline info [] content notes).nodes
around_free (own_html place) info content notes free more = free
around_free nothing_own info content notes free more =
    html_free info (node (body_node (both_nodes content notes)) none)
    ((refl, both_free content notes free more), tt)
around_free x info content notes free more = html_free info content free

-- the root, which stands among the nodes, with styles and with anchors

root_free : (ns : NodesView) (place : ℕ) → AreFree ns →
    RootIsFree (given_root (element_at_index ns place))
root_free none place free = (refl, tt)
root_free (node n ns) (suc place) free = root_free ns place free.1
root_free (node (element_node h kids) ns) zero free = free.0
root_free (node n ns) zero free = (refl, tt)

styled_free : (ns : NodesView) → AreFree ns → AreFree (styled_nodes ns)
styled_free ns = heads_styled HeadIsNoHyperlink HeadIsNoHyperlink (Unit {0}) styled_head ns false

-- anchors are ids
abbrev IsId : NewAttribute → Type 0
IsId new_id = Unit {0}
IsId new_href = ⊥

id_free : (a : NewAttribute) (value : List ℕ) (h : Head) → IsId a → HeadIsNoHyperlink h →
    HeadIsNoHyperlink (with_front_attribute a value h)
id_free new_id value h any free = free
id_free new_href value h never free = absurd never

root_anchored : (x : Targets) (e : ElementView) → RootIsFree e →
    ElementHasNoHyperlink (element_with_anchors x e)
unfolding element_with_anchors
root_anchored x e free = (
  free.0,
  as_nodes (element_with_anchors x e).1 e.0.pre_span
      (holds_then
      (heads_anchored (λ a value. IsId a) HeadIsNoHyperlink (Unit {0}) (λ id span. refl) id_free)
      (root_anchored_by (λ a value. IsId a) (λ id. tt) x e) e.0.pre_span free.1),
)

-- documents of items

converted_free : (items : ItemsView) → ItemsHaveNoHyperlink items → AreFree (document_nodes items)
converted_free = of_converted no_hyperlink free_way free_items items_free Block Normal None

assembled_free : (info : InfoView) (items notes : ItemsView) → ItemsHaveNoHyperlink items →
    ItemsHaveNoHyperlink notes → RootIsFree (document_root (assembled_document info items notes))
assembled_free info items notes free more =
    let content = document_nodes items in
    let others = document_nodes notes in
    let around = assembled_output info [] content others in
    root_free (styled_nodes around.nodes) around.root (styled_free around.nodes
    (around_free (document_outline content) info content others (converted_free items free)
    (converted_free notes more)))

pub no_hyperlink_is_made : NoHyperlinkIsMade
no_hyperlink_is_made info items notes free more =
    let d : DocumentView = assembled_document info items notes in
    let is_target = d.introspector.is_link_target in
    subst ElementHasNoHyperlink (sym (root_has_anchors is_target d))
    (root_anchored (document_targets is_target d) (document_root d)
    (assembled_free info items notes free more))
