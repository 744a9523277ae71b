use Rattle.std.proofs.Common.{Some, None}
use Rattle.html_dom_tree.specs.Views.{text_view}
use Rattle.html_anchors.{proofs.Steps.{text_served}, specs.WalkViews.{state_view}}
use Rattle.html_anchors.proofs.nodes.anchor_text.Goals as goal

pub returns-in_ok-put_in_span : goal.returns-in_ok-put_in_span
returns-in_ok-put_in_span c = λ x text span is.
    text_served x text span _ (state_view c.args.state.now) _ (Some (text_view c.in-Some.name))
    (rw c.in-Some.is at c.in_ok-name.ensures) (c.in_ok-put_in_span.ensures text span is)

pub returns-in_default : goal.returns-in_default
returns-in_default c = λ x text span is.
    text_served x text span _ (state_view c.args.state.now) _ None
    (rw c.in_default.is at c.in_ok-name.ensures) is
