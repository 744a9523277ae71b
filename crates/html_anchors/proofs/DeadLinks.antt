-- The dead links that a walk comes to are those of the nodes.
use Rattle.std.proofs.Common.{◌≡◌, ℕ, suc, List, [], ◌∷◌, ◌++◌, Option, refl, sym, ap, ◌∙◌, append-nil, append_assoc}
use Rattle.html_dom_tree.specs.Tree.{NodeView, tag_node, text_node, element_node, frame_node, NodesView, none, node}
use Rattle.html_dom_walk.specs.Events.{Placed, leave, events_of}
use Rattle.html_anchors.specs.{DeadLinks.{event_dead_links, event_dest}, Links.{DeadLinkView, Hrefs, dead_link, dest_before, node_dead_links, nodes_dead_links, open_dest}}

abbrev pub dead_links_along : Hrefs → Option ℕ → List Placed → List DeadLinkView
dead_links_along hrefs dest [] = []
dead_links_along hrefs dest (e ∷ later) =
    event_dead_links hrefs dest e.1 ++ dead_links_along hrefs (event_dest e.1 dest) later

-- if no destination counts behind the nodes
along_nodes : (hrefs : Hrefs) (before : List NodeView) (parent : List ℕ) (index : ℕ)
    (ns : NodesView) (later : List Placed) (rest : List DeadLinkView) →
    ((dest : Option ℕ) → dead_links_along hrefs dest later ≡ rest) →
    dead_links_along hrefs (dest_before before) (events_of parent index ns later)
    ≡ nodes_dead_links hrefs before ns ++ rest
unfolding events_of nodes_dead_links node_dead_links
along_nodes hrefs before parent index none later rest so = so (dest_before before)
along_nodes hrefs before parent index (node (tag_node t) ns) later rest so =
    along_nodes hrefs (tag_node t ∷ before) parent (suc index) ns later rest so
along_nodes hrefs before parent index (node (text_node s span) ns) later rest so =
    along_nodes hrefs (text_node s span ∷ before) parent (suc index) ns later rest so
along_nodes hrefs before parent index (node (frame_node f) ns) later rest so =
    along_nodes hrefs (frame_node f ∷ before) parent (suc index) ns later rest so
along_nodes hrefs before parent index (node (element_node h kids) ns) later rest so =
    let path = parent ++ index ∷ [] in
    let own = dead_link hrefs (open_dest h (dest_before before)) h.span in
    let below = nodes_dead_links hrefs [] kids in
    let behind = nodes_dead_links hrefs (element_node h kids ∷ before) ns in
    ap (λ l. own ++ l) (along_nodes hrefs [] path 0 kids
    ((path, leave) ∷ events_of parent (suc index) ns later) (behind ++ rest)
    (λ dest. along_nodes hrefs (element_node h kids ∷ before) parent (suc index) ns later rest so))
    ∙ sym (append_assoc (own ++ below) behind rest ∙ append_assoc own below (behind ++ rest))

pub dead_links_along_is : (hrefs : Hrefs) (ns : NodesView) →
    dead_links_along hrefs (dest_before []) (events_of [] 0 ns []) ≡ nodes_dead_links hrefs [] ns
dead_links_along_is hrefs ns =
    along_nodes hrefs [] [] 0 ns [] [] (λ dest. refl) ∙ append-nil (nodes_dead_links hrefs [] ns)
