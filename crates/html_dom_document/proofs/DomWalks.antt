-- What is recorded along a walk is what the definitions record of the nodes.
use Rattle.std.proofs.{Common.{◌≡◌, ℕ, suc, List, [], ◌∷◌, ◌++◌, Bool, true, false, if◌then◌else◌, length, map, take, refl, sym, ap, ◌∙◌, append-nil, append_assoc}, Math.Seq.{take-append_seam, take-length}}
use Rattle.std.specs.List.{zip}
use Rattle.html_dom_tree.specs.Tree.{Head, element_node, frame_node, NodesView, none, node}
use Rattle.html_dom_tree.specs.{Views.{node_view, nodes_view}, declared.node.HtmlNode.{HtmlNode}}
use Rattle.html_dom_walk.{proofs.Gathering.{found_is}, specs.Events.{Placed, leave, events_of}, specs.Gathered.{gathered, nodes_found}}
use Rattle.html_dom_document.specs.DomIndices.{◌then◌, dom_index, dom_indices_after}
use Rattle.html_dom_document.specs.DomWalks.{SiblingsView, event_links, event_places, first_siblings, siblings_past}
use Rattle.html_dom_document.specs.Places.{PlacedTagView, children_path, document_places, frame_links, is_named_html, node_links, node_places, nodes_links, nodes_places}

pub indices_are : (before : NodesView) (ns : List HtmlNode) →
    map (λ pair. pair.1) (zip ns (dom_indices_after before (nodes_view ns)))
    ≡ dom_indices_after before (nodes_view ns)
indices_are before [] = refl
indices_are before (n ∷ ns) =
    ap (λ l. dom_index before (node_view n) ∷ l)
    (indices_are (before then node (node_view n) none) ns)

abbrev pub places_along : SiblingsView → List Placed → List PlacedTagView
places_along s [] = []
places_along s (e ∷ later) = event_places s e.1 ++ places_along (siblings_past s e.1) later

abbrev pub links_along : List Placed → List ℕ
links_along = gathered (λ e. event_links e.1)

abbrev siblings : (left parent : List ℕ) → List (List ℕ × ℕ) → SiblingsView
siblings left parent outer = record { left = left; parent = parent; outer = outer }

path_behind : (h : Head) (path : List ℕ) (index : ℕ) →
    take (length path) (children_path h path index) ≡ path
path_behind h path index = by (is_named_html h)
  where
    by : (html : Bool) → take (length path) (if html then path else path ++ index ∷ []) ≡ path
    by true = take-length path
    by false = take-append_seam path (index ∷ [])

places_from : (before : NodesView) (path : List ℕ) (outer : List (List ℕ × ℕ)) (parent : List ℕ)
    (index : ℕ) (ns : NodesView) (later : List Placed) (rest : List PlacedTagView) →
    places_along (siblings [] path outer) later ≡ rest →
    places_along (siblings (dom_indices_after before ns) path outer)
    (events_of parent index ns later) ≡ nodes_places path before ns ++ rest
unfolding events_of nodes_places node_places
places_from before path outer parent index none later rest so = so
places_from before path outer parent index (node (element_node h kids) ns) later rest so =
    let n = element_node h kids in
    let i = dom_index before n in
    let next = before then node n none in
    let left = dom_indices_after next ns in
    let own = parent ++ index ∷ [] in
    let events = events_of parent (suc index) ns later in
    let behind = nodes_places path next ns in
    places_from none (children_path h path i) ((left, length path) ∷ outer) own 0 kids
    ((own, leave) ∷ events) (behind ++ rest)
    (ap (λ p. places_along (siblings left p outer) events) (path_behind h path i)
    ∙ places_from next path outer parent (suc index) ns later rest so)
    ∙ sym (append_assoc (node_places path i n) behind rest)
places_from before path outer parent index (node n ns) later rest so =
    let own = node_places path (dom_index before n) n in
    let next = before then node n none in
    ap (λ l. own ++ l) (places_from next path outer parent (suc index) ns later rest so)
    ∙ sym (append_assoc own (nodes_places path next ns) rest)

pub places_along_is : (ns : NodesView) →
    places_along (first_siblings ns) (events_of [] 0 ns []) ≡ document_places ns
places_along_is ns =
    places_from none [] [] [] 0 ns [] [] refl ∙ append-nil (document_places ns)

links_are : (ns : NodesView) → nodes_found event_links ns ≡ nodes_links ns
unfolding nodes_found nodes_links node_links
links_are none = refl
links_are (node (frame_node f) ns) = ap (λ l. frame_links f.inner ++ l) (links_are ns)
links_are (node (element_node h kids) ns) = rw (links_are kids, links_are ns) refl
links_are (node n ns) = links_are ns

pub links_along_is : (ns : NodesView) → links_along (events_of [] 0 ns []) ≡ nodes_links ns
links_along_is ns =
    found_is event_links [] 0 ns [] ∙ (append-nil (nodes_found event_links ns) ∙ links_are ns)
