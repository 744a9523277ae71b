use Rattle.std.proofs.Common.{◌≡◌, ◌<◌, ◌≤◌, ◌++◌, ◌∙◌, length, take, drop, sym, ap, refl, arith}
use Rattle.std.proofs.lemmas.{Grind.{common_steps}, List.{drop_all, take_all}, Result.{on_ok_weaker}}
use Rattle.html_dom_tree.specs.{Tree.{element_node}, Views.{element_view, nodes_view}}
use Rattle.html_flow_convert.proofs.Protecting.{shut_element, open_element, protect_in_place, protect_end}
use Rattle.html_flow_convert.specs.{AnswerLists.{answers_view}, BareSpaces.{nodes_things}, Protected.{space_count, nodes_by_answers}}
use Rattle.html_flow_convert.proofs.protect.+protect.Goals as goal

pub protect_element-returns-then-not-is_entered-clause-made : goal.protect_element-returns-then-not-is_entered-clause-made
protect_element-returns-then-not-is_entered-clause-made t c =
    let e = element_view c.args.element.now in
    (shut_element e.0 e.1 (answers_view c.args.answers.now)
    (sym c.is_entered.ensures ∙ c.if-not-is_entered.true)).0

pub protect_element-returns-then-not-is_entered-clause-rest : goal.protect_element-returns-then-not-is_entered-clause-rest
protect_element-returns-then-not-is_entered-clause-rest t c =
    let e = element_view c.args.element.now in
    (shut_element e.0 e.1 (answers_view c.args.answers.now)
    (sym c.is_entered.ensures ∙ c.if-not-is_entered.true)).1

pub protect_element-returns-clause-made : goal.protect_element-returns-clause-made
protect_element-returns-clause-made t c =
    let e = element_view c.args.element.now in
    let old = c.args.element.now.children in
    let new = c.protect_nodes.new.nodes in
    let bs = answers_view c.args.answers.now in
    let opened = open_element e.0 e.1 bs (sym c.is_entered.ensures ∙ c.if-not-is_entered.false) in
    let same : c.deref_mut.result.now ≡ old.items = c.deref_mut.ensures.value in
    let kept : take old.len (new ++ drop (length new) old.items) ≡ new
    = grind (arith, common_steps) in
    on_ok_weaker c.protect_nodes.result
    (λ made. ap (λ ns. element_node e.0 (nodes_view ns)) kept
    ∙ (ap (element_node e.0) (made ∙ ap (λ ns. nodes_by_answers bs (nodes_view ns)) same)
    ∙ opened.0))
    c.protect_nodes.ensures.made

pub protect_element-returns-clause-rest : goal.protect_element-returns-clause-rest
protect_element-returns-clause-rest t c =
    let e = element_view c.args.element.now in
    let bs = answers_view c.args.answers.now in
    let opened = open_element e.0 e.1 bs (sym c.is_entered.ensures ∙ c.if-not-is_entered.false) in
    let same : c.deref_mut.result.now ≡ c.args.element.now.children.items
    = c.deref_mut.ensures.value in
    on_ok_weaker c.protect_nodes.result
    (λ rest. rest ∙ (ap (λ ns. drop (space_count (nodes_things (nodes_view ns))) bs) same
    ∙ ap (λ ts. drop (space_count ts) bs) opened.1))
    c.protect_nodes.ensures.rest

pub protect_nodes-loop-node-preserved : goal.protect_nodes-loop-node-preserved
protect_nodes-loop-node-preserved t c =
    let at = c.loop-node in
    let h : at.node-index < length at.nodes = grind (arith, common_steps) in
    let on = protect_in_place at.nodes at.node-index c.node-item.result c.protect_node.new.node
    (answers_view at.answers) h refl c.in_ok-protect_node.ensures.made
    c.in_ok-protect_node.ensures.rest at.invariant.agrees at.invariant.rest in
    record {
      unvisited = (grind (arith, common_steps), λ k d le. grind (arith, common_steps));
      agrees = on.0;
      rest = on.1;
    }

pub protect_nodes-returns-clause-made : goal.protect_nodes-returns-clause-made
protect_nodes-returns-clause-made t c =
    let at = c.loop-node in
    let i = at.node-index in
    let h : length at.nodes ≤ i = grind (arith, common_steps) in
    ap nodes_view (sym (take_all i at.nodes h))
    ∙ (protect_end (take i at.nodes) (drop i at.nodes) (answers_view at.answers) _ _
    (drop_all i at.nodes h) at.invariant.agrees at.invariant.rest).0

pub protect_nodes-returns-clause-rest : goal.protect_nodes-returns-clause-rest
protect_nodes-returns-clause-rest t c =
    let at = c.loop-node in
    let i = at.node-index in
    let h : length at.nodes ≤ i = grind (arith, common_steps) in
    (protect_end (take i at.nodes) (drop i at.nodes) (answers_view at.answers) _ _
    (drop_all i at.nodes h) at.invariant.agrees at.invariant.rest).1
