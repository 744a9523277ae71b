use Rattle.std.proofs.Common.{List, drop, String, Global}
use Rattle.html_dom_tree.{proofs.Taking.{Left}, specs.FrameViews.{anchors_view}, specs.declared.frame.Point.{Point}}
use Rattle.html_links.specs.TreeNames.{anchor_names}
use Rattle.html_page_findings.specs.PlacedTexts.{Placed, placed_at}
use Rattle.html_page_findings.proofs.walk.pass_anchors.Given as goal

abbrev pub invariant-loop-anchor : goal.invariant-loop-anchor
invariant-loop-anchor g l =
    let made = g.S.TextSink.made_with in
    let placed : List (Point × String Global) → List Placed =
    λ anchors. placed_at (l.path) (anchor_names (anchors_view anchors)) in
    Left (made l.fn.sink) (made l.sink) (placed l.anchors) (placed (drop l.anchor-index l.anchors))
