-- Where the other nodes are tags, the styles of the root are those of all nodes.
use Rattle.std.proofs.Common.{◌≡◌, ℕ, zero, suc, ◌<◌, true, refl, ap, sym, true≢false, arith}
use Rattle.html_dom_tree.specs.Styled.{head_with_style, styled_nodes, styled_element}
use Rattle.html_dom_tree.specs.Tree.{tag_node, element_node, NodesView, none, node}
use Rattle.html_dom_document.specs.Documents.{element_at_index, is_element_at, with_element, given_root}
use Rattle.typst_html_export.specs.Assembled.{shown_count}

tags_styled : (ns : NodesView) → shown_count ns ≡ 0 → styled_nodes ns ≡ ns
unfolding shown_count styled_nodes
tags_styled none e = refl
tags_styled (node (tag_node t) ns) e = ap (node (tag_node t)) (tags_styled ns e)
tags_styled (node n ns) e = absurd (omega (arith, e))

element_counts : (ns : NodesView) (p : ℕ) → is_element_at ns p ≡ true → 0 < shown_count ns
unfolding shown_count
element_counts none p there = absurd (true≢false (sym there))
element_counts (node (tag_node t) ns) zero there = absurd (true≢false (sym there))
element_counts (node (tag_node t) ns) (suc p) there = element_counts ns p there
element_counts (node n ns) p there = omega arith

abbrev root_styled_at : NodesView → ℕ → NodesView
root_styled_at ns p = with_element ns p (styled_element (given_root (element_at_index ns p)))

pub lone_styled : (ns : NodesView) (p : ℕ) → shown_count ns ≡ 1 → is_element_at ns p ≡ true
    → root_styled_at ns p ≡ styled_nodes ns
unfolding shown_count styled_nodes
lone_styled none p one there = refl
lone_styled (node (tag_node t) ns) (suc p) one there =
    ap (node (tag_node t)) (lone_styled ns p one there)
lone_styled (node (element_node h kids) ns) zero one there =
    ap (node (element_node (head_with_style h) (styled_nodes kids))) (sym (tags_styled ns (omega (arith, one))))
lone_styled (node n ns) zero one there = absurd (true≢false (sym there))
lone_styled (node n ns) (suc p) one there = absurd (omega (arith, one, element_counts ns p there))
