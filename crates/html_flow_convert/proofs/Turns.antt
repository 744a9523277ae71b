-- The nodes that are looked at are some of all nodes.
use Rattle.std.proofs.Common.{ℕ, ◌+◌, ◌≤◌, Bool, true, false, if◌then◌else◌, arith}
use Rattle.html_dom_tree.specs.Tree.{NodeView, element_node, NodesView, none, node}
use Rattle.html_dom_flat.specs.Flat.{node_count, nodes_count}
use Rattle.html_flow_convert.specs.BareSpaces.{is_entered, node_turns, nodes_turns}

turns_inside : (b : Bool) (turns count : ℕ) → turns ≤ count →
    1 + (if b then turns else 0) ≤ 1 + count
turns_inside true turns count h = omega (arith, h)
turns_inside false turns count h = omega arith

mutual
  unfolding node_turns node_count

  turns_among_one : (n : NodeView) → node_turns n ≤ node_count n
  turns_among_one (element_node h ns) =
      turns_inside (is_entered h) (nodes_turns ns) (nodes_count ns) (turns_among ns)
  turns_among_one x = omega arith

  pub turns_among : (ns : NodesView) → nodes_turns ns ≤ nodes_count ns
  turns_among none = omega arith
  turns_among (node n ns) = omega (arith, turns_among_one n, turns_among ns)
