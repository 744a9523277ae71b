use Rattle.std.proofs.{Common.{◌≡◌, arith, length, ap}, lemmas.Bool.Decides.{nat_tests}, lemmas.List.{nil_from_length}}
use Rattle.html_anchors.{proofs.Steps.{text_kept}, specs.LocationMaps.{locations_in}, specs.WalkViews.{state_view}}
use Rattle.html_anchors.proofs.state.AnchorState.passes.Goals as goal

pub returns-in-Text : goal.returns-in-Text
returns-in-Text c h x =
    let w = c.args.self.now in
    let empty : length w.waiting.items ≡ 0 = grind (arith, nat_tests) in
    text_kept x c.args.child.now c.in-Text.field-0 c.in-Text.field-1 (state_view w) c.in-Text.is
    (ap locations_in (nil_from_length w.waiting.items empty))
