use Rattle.std.proofs.Common.{[], ◌∷◌, ◌<◌, ◌≤◌, length, reverse, ap, sym, ◌∙◌, refl, subst, arith}
use denote.Param.Weighed.{most, most-append}
use Rattle.std.proofs.lemmas.{Grind.{common_steps}, List.{nil_from_length, reverse-reverse}, Result.{on_ok_weaker}}
use Rattle.html_dom_tree.proofs.{Reversed.{most_reversed, next_reversed}, node.HtmlNode.TheLaws.{the_size}}
use Rattle.html_dom_tree.specs.{Tree.{none}, Views.{optional_text_view, node_view, nodes_view, element_view}}
use Rattle.html_names_core.specs.Tables.{known_attrs}
use Rattle.html_anchors.proofs.Steps.{span_placed}
use Rattle.html_anchors.proofs.WholeWalk.{element_served, node_placed, node_kept, node_walked, nodes_kept, nodes_walked}
use Rattle.html_anchors.specs.{AnchorWalk.{first_waiting, Serves}, Anchors.{span_before}, WalkViews.{state_view, targets_view}}
use Rattle.html_dom_document.specs.DomIndices.{◌then◌}
use Rattle.html_anchors.proofs.elements.+nodes.Goals as goal

pub anchor_element-returns : goal.anchor_element-returns
unfolding known_attrs
anchor_element-returns t c =
    let x = targets_view c.args.sought in
    let e = element_view c.args.element.now in
    let st = state_view c.args.state.now in
    let after = state_view c.serve.new.self in
    let name = optional_text_view c.in_ok-name.name in
    on_ok_weaker c.anchor_nodes.result (λ below.
    element_served x e.0 _ e.1 _ st after _ name
    (subst (λ own. Serves st after (first_waiting st) own name) c.get.ensures
    c.in_ok-name.ensures)
    (rw c.in_ok-name_attrs.ensures refl) below) c.anchor_nodes.ensures

pub anchor_in_place-loop-child-preserved : goal.anchor_in_place-loop-child-preserved
anchor_in_place-loop-child-preserved t c =
    let at = c.loop-child in
    let x = targets_view c.args.sought in
    let st = state_view at.state in
    let h : at.child-index < length at.nodes = grind (arith, common_steps) in
    let step = node_kept x at.nodes _ at.child-index c.child-item.result c.anchor_node.new.child
    (span_before (optional_text_view c.in_ok-anchor_node.field-0) none) st _ _ h refl
    at.invariant.no_end at.invariant.agrees
    c.in_ok-anchor_node.ensures in
    record {
      unvisited = (grind (arith, common_steps), λ k d le. grind (arith, common_steps));
      agrees = step.0;
      no_end = step.1;
    }

pub anchor_in_place-loop-child-preserved-then-passes : goal.anchor_in_place-loop-child-preserved-then-passes
anchor_in_place-loop-child-preserved-then-passes t c =
    let at = c.loop-child in
    let x = targets_view c.args.sought in
    let st = state_view at.state in
    let h : at.child-index < length at.nodes = grind (arith, common_steps) in
    let step = node_kept x at.nodes _ at.child-index c.child-item.result _ none st st _ h refl
    at.invariant.no_end at.invariant.agrees (sym (c.passes.ensures c.if-passes.true x)) in
    record {
      unvisited = (grind (arith, common_steps), λ k d le. grind (arith, common_steps));
      agrees = step.0;
      no_end = step.1;
    }

pub anchor_in_place-returns : goal.anchor_in_place-returns
anchor_in_place-returns t c =
    let at = c.loop-child in
    let h : length at.nodes ≤ at.child-index = grind (arith, common_steps) in
    nodes_kept (targets_view c.args.sought) at.nodes at.child-index (state_view at.state) _ h
    at.invariant.agrees

pub with_spans-loop-child-init : goal.with_spans-loop-child-init
with_spans-loop-child-init t c =
    let all = c.args.nodes.items in
    let again = ap reverse c.reverse.ensures.items ∙ reverse-reverse all in
    let same = ap (most the_size) c.reverse.ensures.items ∙ most_reversed the_size all in
    record { agrees = rw (c.in_ok-made.ensures.items, again) refl; deep = omega (arith, same) }

pub with_spans-loop-child-preserved : goal.with_spans-loop-child-preserved
with_spans-loop-child-preserved t c =
    let at = c.loop-child in
    let x = targets_view c.args.sought in
    let nodes = c.give_back.new.nodes.items in
    let first = next_reversed at.nodes.items nodes c.in-Some.child
    (rw c.give_back.ensures c.in-Some.ensures.items) in
    let parts = ap (most the_size) c.in-Some.ensures.items
    ∙ most-append the_size c.pop.new.self.items (c.in-Some.child ∷ []) in
    let old = at.made.items in
    let n = c.anchor_node.new.child in
    let more = span_before (optional_text_view c.in_ok-name.name) none in
    let placed = c.in_ok-push_span.ensures
    ∙ (ap (λ l. nodes_view l then more) c.in_ok-push.ensures.items
    ∙ span_placed old n more) in
    record {
      agrees = node_walked x (reverse at.nodes.items) (reverse nodes) c.in-Some.child (nodes_view old) _
          (state_view at.state) _ _ first at.invariant.agrees
          (node_placed x (node_view c.in-Some.child) (node_view n) more (nodes_view old) _
          (state_view at.state) _ c.in_ok-name.ensures placed);
      deep = omega (arith, at.invariant.deep, parts, ap (most the_size) c.give_back.ensures);
    }

pub with_spans-returns : goal.with_spans-returns
with_spans-returns t c =
    let at = c.loop-child in
    let empty = nil_from_length at.nodes.items (sym at.nodes.ok.0 ∙ c.in_default.ensures.cases.0) in
    nodes_walked (targets_view c.args.sought) (reverse at.nodes.items) (nodes_view at.made.items)
    (state_view at.state) _ (ap reverse empty) at.invariant.agrees
