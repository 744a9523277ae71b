use Rattle.std.proofs.Common.{◌∙◌, sym, true, false}
use Rattle.html_flow_convert.proofs.LoneNodes.{tag_passed, decided, none_left}
use Rattle.html_flow_convert.proofs.lone.lone_node.Goals as goal

pub loop-place-preserved : goal.loop-place-preserved
loop-place-preserved c =
    tag_passed c.args.nodes.now _ _ c.loop-place-test.true c.index-nodes-place.is
    (sym c.is_tag.ensures ∙ c.if-is_tag.true) c.loop-place.invariant

pub returns-then-are_tags : goal.returns-then-are_tags
returns-then-are_tags c =
    c.element_or_frame.ensures
    ∙ sym (decided c.args.nodes.now _ _ c.loop-place-test.true c.index-nodes-place.is true
    (sym c.is_tag.ensures ∙ c.if-is_tag.false) (sym c.are_tags.ensures ∙ c.if-are_tags.true)
    c.loop-place.invariant)

pub returns-in-loop-place : goal.returns-in-loop-place
returns-in-loop-place c =
    sym (decided c.args.nodes.now _ _ c.loop-place-test.true c.index-nodes-place.is false
    (sym c.is_tag.ensures ∙ c.if-is_tag.false) (sym c.are_tags.ensures ∙ c.if-are_tags.false)
    c.loop-place.invariant)

pub returns : goal.returns
returns c = sym (none_left c.args.nodes.now _ c.loop-place-test.false c.loop-place.invariant)
