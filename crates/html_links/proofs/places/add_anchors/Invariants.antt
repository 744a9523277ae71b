use Rattle.std.proofs.Common.{◌≡◌, drop}
use Rattle.html_dom_tree.specs.FrameViews.{anchors_view}
use Rattle.html_links.specs.{TreeNames.{anchor_names}, UsedNames.{used_in, with_names}}
use Rattle.html_links.proofs.places.add_anchors.Given as goal

abbrev pub invariant-loop-anchor : goal.invariant-loop-anchor
invariant-loop-anchor l =
    with_names (anchor_names (anchors_view (drop l.anchor-index l.anchors))) (used_in l.names)
    ≡ with_names (anchor_names (anchors_view l.anchors)) (used_in l.fn.names)
