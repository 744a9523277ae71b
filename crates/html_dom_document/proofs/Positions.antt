-- The positions of a new document lead to the elements that hold the tags.
use Rattle.std.proofs.Common.{◌≡◌, ℕ, zero, suc, List, [], ◌∷◌, ◌++◌, Bool, true, false, ◌==◌, if◌then◌else◌, Option, Some, None, option_and_then, subst, refl, sym, ap, ◌∙◌}
use Rattle.std.proofs.lemmas.Option.{none-some, same_Some}
use Rattle.html_dom_tree.specs.PlainTree.{Plain, element_normal}
use Rattle.html_dom_tree.specs.Tree.{Head, tag_node, text_node, element_node, frame_node, NodesView, none, node, ElementView}
use Rattle.html_dom_document.proofs.Leading.{paths_lead}
use Rattle.html_dom_document.specs.{Documents.{DocumentView, nodes_before, element_at_index}, DomIndices.{◌then◌, dom_index}}
use Rattle.html_dom_document.specs.{Introspectors.{IntrospectorView, recorded_view}, Paths.{holders, Lead}}
use Rattle.html_dom_document.specs.Places.{PositionView, PlacedTagView, is_named_html, children_path, node_places, nodes_places, document_places, first_position}
use Rattle.html_dom_document.specs.Positions.{first_holder, led_to, PositionsLead}

found_after : (ps qs : List PlacedTagView) (l : ℕ) → first_position ps l ≡ None →
    first_position (ps ++ qs) l ≡ first_position qs l
found_after [] qs l absent = refl
found_after (p ∷ ps) qs l absent = by (found_after ps qs l) (p.location == l) absent
  where
    by : (first_position ps l ≡ None → first_position (ps ++ qs) l ≡ first_position qs l) →
        (here : Bool) → (if here then Some p.position else first_position ps l) ≡ None →
        (if here then Some p.position else first_position (ps ++ qs) l) ≡ first_position qs l
    by so true absent = absurd (none-some p.position (sym absent))
    by so false absent = so absent

found_before : (ps qs : List PlacedTagView) (l : ℕ) (x : PositionView) →
    first_position ps l ≡ Some x → first_position (ps ++ qs) l ≡ Some x
found_before [] qs l x found = absurd (none-some x found)
found_before (p ∷ ps) qs l x found = by (found_before ps qs l x) (p.location == l) found
  where
    by : (first_position ps l ≡ Some x → first_position (ps ++ qs) l ≡ Some x) →
        (here : Bool) → (if here then Some p.position else first_position ps l) ≡ Some x →
        (if here then Some p.position else first_position (ps ++ qs) l) ≡ Some x
    by so true found = found
    by so false found = so found

absent_from_both : (ps qs : List PlacedTagView) (l : ℕ) → first_position (ps ++ qs) l ≡ None →
    (first_position ps l ≡ None) × (first_position qs l ≡ None)
absent_from_both [] qs l absent = (refl, absent)
absent_from_both (p ∷ ps) qs l absent =
    by (absent_from_both ps qs l) (p.location == l) absent
  where
    by : (first_position (ps ++ qs) l ≡ None →
        (first_position ps l ≡ None) × (first_position qs l ≡ None)) → (here : Bool) →
        (if here then Some p.position else first_position (ps ++ qs) l) ≡ None →
        ((if here then Some p.position else first_position ps l) ≡ None)
        × (first_position qs l ≡ None)
    by so true absent = absurd (none-some p.position (sym absent))
    by so false absent = so absent

-- a position that leads to the element
abbrev LeadingPosition : Plain → Option PositionView → ElementView → Type 0
LeadingPosition root found e =
    (x : PositionView) × (found ≡ Some x) × (led_to root x ≡ Some (element_normal e))

first_leads : (root : Plain) (ps : List PlacedTagView) (es : List ElementView) (l : ℕ)
    (e : ElementView) → Lead root ps es → first_holder ps es l ≡ Some e →
    LeadingPosition root (first_position ps l) e
first_leads root [] es l e lead held = absurd (none-some e held)
first_leads root (p ∷ ps) [] l e lead held = absurd (none-some e held)
first_leads root (p ∷ ps) (f ∷ fs) l e lead held =
    by (first_leads root ps fs l e lead.1) (p.location == l) held
  where
    by : (first_holder ps fs l ≡ Some e → LeadingPosition root (first_position ps l) e) →
        (here : Bool) → (if here then Some f else first_holder ps fs l) ≡ Some e →
        LeadingPosition root (if here then Some p.position else first_position ps l) e
    by so true held =
        (p.position, refl, lead.0 ∙ ap (λ g. Some (element_normal g)) (same_Some f e held))
    by so false held = so held

root_path : (h : Head) (i : ℕ) → is_named_html h ≡ true → children_path h [] i ≡ []
root_path h i html = ap (λ out. if out then [] else i ∷ []) html

-- what is found below an `html` element at a place, and not before it, is found in the list
found_below : (ns acc : NodesView) (i l : ℕ) (h : Head) (children : NodesView)
    (x : PositionView) → element_at_index ns i ≡ Some (h, children) → is_named_html h ≡ true →
    first_position (nodes_places [] acc (nodes_before ns i)) l ≡ None →
    first_position (document_places children) l ≡ Some x →
    first_position (nodes_places [] acc ns) l ≡ Some x
unfolding nodes_places
found_below none acc i l h children x there html absent found = absurd (none-some (h, children) there)
found_below (node n ns) acc (suc i) l h children x there html absent found =
    let here = node_places [] (dom_index acc n) n in
    let next = acc then node n none in
    let split = absent_from_both here (nodes_places [] next (nodes_before ns i)) l absent in
    found_after here (nodes_places [] next ns) l split.0
    ∙ found_below ns next i l h children x there html split.1 found
found_below (node (tag_node t) ns) acc zero l h children x there html absent found =
    absurd (none-some (h, children) there)
found_below (node (text_node s span) ns) acc zero l h children x there html absent found =
    absurd (none-some (h, children) there)
found_below (node (frame_node f) ns) acc zero l h children x there html absent found =
    absurd (none-some (h, children) there)
found_below (node (element_node g inner) ns) acc zero l h children x there html absent found =
    let same : (g, inner) ≡ (h, children) = same_Some (g, inner) (h, children) there in
    let i = dom_index acc (element_node g inner) in
    let path_is : children_path g [] i ≡ [] =
    ap (λ (e : ElementView). children_path e.0 [] i) same ∙ root_path h i html in
    found_before (node_places [] i (element_node g inner))
    (nodes_places [] (acc then node (element_node g inner) none) ns) l x
    (ap (λ path. first_position (nodes_places path none inner) l) path_is
    ∙ (ap (λ (e : ElementView). first_position (document_places e.1) l) same ∙ found))

-- of a document that has what is recorded of its nodes, as a new one does
pub positions_lead : (d : DocumentView) → d.introspector ≡ recorded_view d.output.nodes →
    PositionsLead d
unfolding nodes_places
positions_lead d known root location holder there html plain absent held =
    let top = element_normal root in
    let lead : Lead top (document_places root.1) (holders root root.1) =
    subst (λ path. Lead top (nodes_places path none root.1) (holders root root.1))
    (root_path root.0 0 html) (paths_lead 0 root.0 root.1 html plain) in
    let below = first_leads top (document_places root.1) (holders root root.1) location holder lead held in
    ap (λ (i : IntrospectorView). option_and_then (led_to top) (i.position location)) known
    ∙ (ap (option_and_then (led_to top)) (found_below d.output.nodes none d.output.root location
    root.0 root.1 below.0 there html absent below.1)
    ∙ below.2)
