-- A list spells the nodes that it was made of.
use Rattle.std.proofs.Common.{◌≡◌, ℕ, zero, suc, ◌+◌, ◌-◌, ◌<◌, List, [], ◌++◌, refl, ap, sym, ◌∙◌, arith, append_assoc, append-nil, add-zero, add_assoc, length}
use Rattle.std.proofs.lemmas.List.{length-append}
use Rattle.html_dom_tree.specs.Tree.{NodeView, tag_node, text_node, element_node, frame_node, NodesView, none, node, ElementView}
use Rattle.html_dom_flat.specs.Flat.{FlatNodeView, node_count, nodes_count, node_flat, nodes_flat, element_flat, front, back, spelled_nodes}

abbrev pub joined : NodesView → NodesView → NodesView
joined none ms = ms
joined (node n ns) ms = node n (joined ns ms)

pub count_some : (n : NodeView) → 0 < node_count n
unfolding node_count
count_some (element_node h ns) = omega arith
count_some n = omega arith

pub joined_none : (ns : NodesView) → joined ns none ≡ ns
joined_none none = refl
joined_none (node n ns) = ap (node n) (joined_none ns)

pub front_joined : (ns ms : NodesView) (count : ℕ) → count ≡ nodes_count ns →
    front count (joined ns ms) ≡ ns
unfolding front node_count
front_joined none ms count e = rw e refl
front_joined (node n ns) ms zero e = absurd (omega (arith, count_some n))
front_joined (node n ns) ms (suc count) e =
    ap (node n) (front_joined ns ms (suc count - node_count n) (omega (arith, count_some n)))

pub back_joined : (ns ms : NodesView) (count : ℕ) → count ≡ nodes_count ns →
    back count (joined ns ms) ≡ ms
unfolding back node_count
back_joined none ms count e = rw e refl
back_joined (node n ns) ms zero e = absurd (omega (arith, count_some n))
back_joined (node n ns) ms (suc count) e =
    back_joined ns ms (suc count - node_count n) (omega (arith, count_some n))

mutual
  unfolding node_flat spelled_nodes node_count

  pub spelled_one : (index : ℕ) (n : NodeView) (fs : List FlatNodeView) →
      spelled_nodes index (node_flat index n ++ fs)
      ≡ node n (spelled_nodes (index + node_count n) fs)
  spelled_one index (tag_node t) fs = refl
  spelled_one index (text_node s span) fs = refl
  spelled_one index (element_node h ns) fs =
      let after = spelled_nodes (index + 1 + nodes_count ns) fs in
      let inside : spelled_nodes (index + 1) (nodes_flat (index + 1) ns ++ fs) ≡ joined ns after
      = spelled_more (index + 1) ns fs in
      let count : (index + 1 + nodes_count ns) - (index + 1) ≡ nodes_count ns = omega arith in
      let same : index + 1 + nodes_count ns ≡ index + (1 + nodes_count ns) = omega arith in
      rw (inside, front_joined ns after _ count, back_joined ns after _ count, same) refl
  spelled_one index (frame_node f) fs = refl

  pub spelled_more : (index : ℕ) (ns : NodesView) (fs : List FlatNodeView) →
      spelled_nodes index (nodes_flat index ns ++ fs)
      ≡ joined ns (spelled_nodes (index + nodes_count ns) fs)
  spelled_more index none fs = rw add-zero refl
  spelled_more index (node n ns) fs =
      rw (
        append_assoc,
        spelled_one index n (nodes_flat (index + node_count n) ns ++ fs),
        spelled_more (index + node_count n) ns fs,
        add_assoc,
      ) refl

pub spelled_flat : (index : ℕ) (ns : NodesView) → spelled_nodes index (nodes_flat index ns) ≡ ns
unfolding node_flat spelled_nodes
spelled_flat index ns =
    rw (← append-nil (nodes_flat index ns)) (spelled_more index ns [] ∙ joined_none ns)

pub list_spelled : (list : List FlatNodeView) (ns : NodesView) → list ≡ nodes_flat 0 ns →
    spelled_nodes 0 list ≡ ns
list_spelled list ns made = ap (spelled_nodes 0) made ∙ spelled_flat 0 ns

pub list_spells : (list : List FlatNodeView) (ns : NodesView) → list ≡ nodes_flat 0 ns →
    nodes_flat 0 (spelled_nodes 0 list) ≡ list
list_spells list ns made = ap (nodes_flat 0) (list_spelled list ns made) ∙ sym made

pub element_list : (index : ℕ) (e : ElementView) →
    nodes_flat index (node (element_node e.0 e.1) none) ≡ element_flat index e
unfolding node_flat
element_list index e = append-nil (element_flat index e)

mutual
  unfolding node_flat node_count

  pub length_one : (index : ℕ) (n : NodeView) → length (node_flat index n) ≡ node_count n
  length_one index (element_node h ns) = omega (arith, length_all (index + 1) ns)
  length_one index x = refl

  pub length_all : (index : ℕ) (ns : NodesView) → length (nodes_flat index ns) ≡ nodes_count ns
  length_all index none = refl
  length_all index (node n ns) =
      length-append (node_flat index n) (nodes_flat (index + node_count n) ns)
      ∙ omega (arith, length_one index n, length_all (index + node_count n) ns)
