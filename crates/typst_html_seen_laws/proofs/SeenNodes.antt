-- Nodes without what is unseen, where each element is seen.
use Rattle.std.proofs.Common.{◌≡◌, Bool, true, false, bytes_eq, codes, refl, sym, ap, ◌∙◌, inl, inr}
use Rattle.std.{proofs.lemmas.Bool.{and_parts, cases_Bool, not-true}, specs.Prelude.{◌&&◌, if◌then◌else◌}}
use Rattle.html_dom_tree.specs.Tree.{Head, NodesView, tag_node, text_node, element_node, frame_node, none, node, ElementView}
use Rattle.html_dom_shown.specs.Bodies.{body_children}
use Rattle.html_page_text.specs.Unseen.{is_unseen, seen_nodes, seen_element}
use Rattle.typst_html_seen_laws.specs.AllSeen.{is_seen, are_seen, shows_body, shows_all, SeenNodesStay}

pub seen_nodes_stay : SeenNodesStay
unfolding seen_nodes are_seen
seen_nodes_stay none all = refl
seen_nodes_stay (node (tag_node t) ns) all = ap (node (tag_node t)) (seen_nodes_stay ns all)
seen_nodes_stay (node (text_node s span) ns) all =
    ap (node (text_node s span)) (seen_nodes_stay ns all)
seen_nodes_stay (node (element_node h kids) ns) all =
    let both = and_parts (is_seen h) (are_seen kids && are_seen ns) all in
    let inside = and_parts (are_seen kids) (are_seen ns) both.1 in
    rw (
      not-true (is_unseen h.name h.attrs) both.0,
      seen_nodes_stay kids inside.0,
      seen_nodes_stay ns inside.1,
    ) refl
seen_nodes_stay (node (frame_node f) ns) all = ap (node (frame_node f)) (seen_nodes_stay ns all)

-- an element that is not named `body` is passed, whether it is seen or not
other_passed : (unseen : Bool) (h : Head) (kids ns : NodesView) →
    bytes_eq h.name (codes "body") ≡ false →
    body_children (if unseen then ns else node (element_node h kids) ns) ≡ body_children ns
other_passed true h kids ns other = refl
other_passed false h kids ns other = rw other refl

-- a `body` that is seen, with all that is in it
body_stays : (h : Head) (kids ns : NodesView) → bytes_eq h.name (codes "body") ≡ true →
    is_seen h && are_seen kids ≡ true →
    body_children (seen_nodes (node (element_node h kids) ns))
    ≡ body_children (node (element_node h kids) ns)
unfolding seen_nodes
body_stays h kids ns is all =
    let both = and_parts (is_seen h) (are_seen kids) all in
    rw (not-true (is_unseen h.name h.attrs) both.0, is, seen_nodes_stay kids both.1) refl

first_body_stays : (ns : NodesView) → shows_body ns ≡ true →
    body_children (seen_nodes ns) ≡ body_children ns
unfolding seen_nodes
first_body_stays none all = refl
first_body_stays (node (tag_node t) ns) all = first_body_stays ns all
first_body_stays (node (text_node s span) ns) all = first_body_stays ns all
first_body_stays (node (element_node h kids) ns) all =
    elim (cases_Bool (bytes_eq h.name (codes "body"))) [
      | inl is ↦ body_stays h kids ns is (rw is at all)
      | inr other ↦
          let left : shows_body ns ≡ true = rw other at all in
          other_passed (is_unseen h.name h.attrs) h (seen_nodes kids) (seen_nodes ns) other
          ∙ (first_body_stays ns left ∙ sym (other_passed false h kids ns other))
    ]
first_body_stays (node (frame_node f) ns) all = first_body_stays ns all

pub body_of_seen : (root : ElementView) → shows_all root ≡ true →
    body_children (seen_element root).1 ≡ body_children root.1
body_of_seen root all =
    let both = and_parts (is_seen root.0) (shows_body root.1) all in
    rw (not-true (is_unseen root.0.name root.0.attrs) both.0) (first_body_stays root.1 both.1)
