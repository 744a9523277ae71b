-- Pages of which nothing is hidden.
use Rattle.std.specs.Prelude.{◌≡◌, Bool, true, not, ◌&&◌, codes, bytes_eq, if◌then◌else◌}
use Rattle.html_dom_tree.specs.Tree.{Head, tag_node, text_node, element_node, frame_node, NodesView, none, node, ElementView}
use Rattle.html_page_text.specs.Unseen.{is_unseen, seen_nodes}

abbrev pub is_seen : Head → Bool
is_seen h = not (is_unseen h.name h.attrs)

-- whether each element of the nodes is visible, at any depth
unfoldable pub are_seen : NodesView → Bool
are_seen none = true
are_seen (node (tag_node t) ns) = are_seen ns
are_seen (node (text_node s span) ns) = are_seen ns
are_seen (node (element_node h kids) ns) = is_seen h && (are_seen kids && are_seen ns)
are_seen (node (frame_node f) ns) = are_seen ns

-- whether the first `body` and each element in it are visible
abbrev pub shows_body : NodesView → Bool
shows_body none = true
shows_body (node (tag_node t) ns) = shows_body ns
shows_body (node (text_node s span) ns) = shows_body ns
shows_body (node (element_node h kids) ns) =
    if bytes_eq h.name (codes "body") then is_seen h && are_seen kids else shows_body ns
shows_body (node (frame_node f) ns) = shows_body ns

-- whether a root, its first `body` and each element in that are visible
abbrev pub shows_all : ElementView → Bool
shows_all root = is_seen root.0 && shows_body root.1

-- if each element is visible, nothing is left out
abbrev pub SeenNodesStay : Type 0
SeenNodesStay = (ns : NodesView) → are_seen ns ≡ true → seen_nodes ns ≡ ns
