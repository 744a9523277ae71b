use Rattle.std.proofs.Common.{◌≡◌, drop, take}
use Rattle.html_dom_tree.specs.Views.{nodes_view}
use Rattle.html_dom_flat.proofs.Flats.{joined}
use Rattle.html_flow_convert.specs.{AnswerLists.{answers_view}, BareSpaces.{nodes_things}, Protected.{space_count, nodes_by_answers}}
use Rattle.html_flow_convert.proofs.protect.+protect.Given as goal

abbrev pub invariant-protect_nodes-loop-node : goal.invariant-protect_nodes-loop-node
invariant-protect_nodes-loop-node l =
    let i = l.node-index in
    let left = nodes_view (drop i l.nodes) in
    let all = nodes_view l.initial.nodes in
    record {
      unvisited : goal.unvisited-protect_nodes-loop-node l;
      agrees : joined (nodes_view (take i l.nodes)) (nodes_by_answers (answers_view l.answers) left)
          ≡ nodes_by_answers (answers_view l.initial.answers) all;
      rest : drop (space_count (nodes_things left)) (answers_view l.answers)
          ≡ drop (space_count (nodes_things all)) (answers_view l.initial.answers);
    }
