-- The first body, and what is visible of it.
use Rattle.std.proofs.Common.{◌≡◌, Bool, true, false, List, [], bytes_eq, codes, Option, Some, None, refl, ap, ◌∙◌, sym}
use Rattle.std.specs.Prelude.{if◌then◌else◌, option_map, unwrap_or}
use Rattle.html_dom_tree.specs.{Attributes.{or_else}, PlainTree.{nodes_normal}}
use Rattle.html_dom_tree.specs.Tree.{Head, NodeView, NodesView, tag_node, text_node, element_node, frame_node, none, node}
use Rattle.html_dom_shown.{proofs.Bodies.{body_in_normal}, specs.Bodies.{body_children, body_in}}
use Rattle.html_dom_shown.specs.{Collapsing.{Piece, collapsed_pieces, plains_atoms}, SeenBodies.{seen_body}}
use Rattle.html_page_text.proofs.Gathering.{gathered_is_seen, past_all}
use Rattle.html_page_text.specs.{Gathering.{nothing_seen, final}, Parts.{Part, joined_parts}}
use Rattle.html_page_text.specs.{Progress.{Progress, no_progress, progress_past}, Unseen.{is_unseen, seen_nodes}}

-- the first body

by_name : (b : Bool) (kids : NodesView) (rest : Option NodesView) →
    (if b then Some kids else rest) ≡ or_else (if b then Some kids else None) rest
by_name true kids rest = refl
by_name false kids rest = refl

first_body_by_seen : (unseen : Bool) (h : Head) (kids ns : NodesView) →
    body_children (if unseen then ns else node (element_node h kids) ns)
    ≡ or_else (body_children (if unseen then none else node (element_node h kids) none))
    (body_children ns)
first_body_by_seen true h kids ns = refl
first_body_by_seen false h kids ns =
    by_name (bytes_eq h.name (codes "body")) kids (body_children ns)

pub body_first : (n : NodeView) (ns : NodesView) →
    body_children (seen_nodes (node n ns))
    ≡ or_else (body_children (seen_nodes (node n none))) (body_children (seen_nodes ns))
unfolding seen_nodes
body_first (tag_node t) ns = refl
body_first (text_node s span) ns = refl
body_first (element_node h kids) ns =
    first_body_by_seen (is_unseen h.name h.attrs) h (seen_nodes kids) (seen_nodes ns)
body_first (frame_node b) ns = refl

-- what is seen of it

abbrev pub seen_in : NodesView → List Piece
seen_in ns = unwrap_or (seen_body (body_in (nodes_normal ns))) []

abbrev pub parts_in : NodesView → List Part
parts_in ns = joined_parts (seen_in ns)

seen_by : (body : Option NodesView) →
    collapsed_pieces (plains_atoms false (nodes_normal (unwrap_or body none)))
    ≡ unwrap_or (seen_body (option_map nodes_normal body)) []
unfolding nodes_normal
seen_by None = refl
seen_by (Some body) = refl

pub body_seen : (ns kids : NodesView) (p : Progress) →
    seen_nodes kids ≡ unwrap_or (body_children ns) none → p ≡ progress_past no_progress kids →
    final p.seen ≡ parts_in ns
body_seen ns kids p is e =
    let body = unwrap_or (body_children ns) none in
    ap (λ q. final q.seen) e ∙ (ap (λ l. final (past_all false nothing_seen l)) is
    ∙ (gathered_is_seen (plains_atoms false (nodes_normal body))
    ∙ ap joined_parts (seen_by (body_children ns)
    ∙ ap (λ l. unwrap_or (seen_body l) []) (sym (body_in_normal ns)))))
