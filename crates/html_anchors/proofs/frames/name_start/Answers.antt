use Rattle.std.{proofs.Common.{sym, ap, ◌∙◌}, proofs.lemmas.List.{map-append}, specs.Prelude.{option_map}}
use Rattle.html_dom_tree.specs.FrameViews.{optional_text_view, point_view, anchor_view, anchors_view}
use Rattle.html_names_core.specs.Texts.{text_view}
use Rattle.html_anchors.proofs.InFrames.{start_named, no_target, no_point, end_passes}
use Rattle.html_anchors.specs.{Joined.{InFrame}, WalkViews.{state_view, targets_view}}
use Rattle.html_anchors.proofs.frames.name_start.Goals as goal

pub returns-in_default-point : goal.returns-in_default-point
returns-in_default-point c = λ p.
    let old : InFrame = (state_view c.args.state.now, anchors_view c.args.anchors.now.items) in
    rw c.in-Start.is (no_point (targets_view c.args.sought) p c.in-Start.location.0
    (optional_text_view c.in-Start.label) (option_map (λ d. d.0) c.in-Start.dest) old
    (sym c.point.ensures ∙ ap (option_map point_view) c.in_default-point.is))

pub returns-in_default : goal.returns-in_default
returns-in_default c = λ p.
    let old : InFrame = (state_view c.args.state.now, anchors_view c.args.anchors.now.items) in
    rw c.in_default.is (end_passes (targets_view c.args.sought) p c.in_default.field-0.0 old)

pub returns-then-not-contains : goal.returns-then-not-contains
returns-then-not-contains c = λ p.
    let old : InFrame = (state_view c.args.state.now, anchors_view c.args.anchors.now.items) in
    rw c.in-Start.is (no_target (targets_view c.args.sought) p c.in-Start.location.0
    (optional_text_view c.in-Start.label) (option_map (λ d. d.0) c.in-Start.dest) old
    (sym c.contains.ensures ∙ c.if-not-contains.true))

pub returns : goal.returns
returns c = λ p.
    let old : InFrame = (state_view c.args.state.now, anchors_view c.args.anchors.now.items) in
    rw c.in-Start.is (start_named (targets_view c.args.sought) p (point_view c.in-Some.point)
    c.in-Start.location.0
    (optional_text_view c.in-Start.label) (option_map (λ d. d.0) c.in-Start.dest) old
    (text_view c.in_ok-name.name) _ _
    (sym c.contains.ensures ∙ c.if-not-contains.false)
    (sym c.point.ensures ∙ ap (option_map point_view) c.in-Some.is)
    c.in_ok-name.ensures.name c.in_ok-name.ensures.state
    (ap anchors_view c.in_ok-push.ensures.items
    ∙ map-append anchor_view c.args.anchors.now.items _))
