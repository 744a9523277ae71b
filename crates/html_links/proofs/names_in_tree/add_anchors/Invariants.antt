use Rattle.std.proofs.Common.{◌≡◌, ◌++◌, drop}
use Rattle.html_dom_tree.specs.FrameViews.{anchors_view}
use Rattle.html_links.specs.{Distinct.{names_view}, TreeNames.{anchor_names}}
use Rattle.html_links.proofs.names_in_tree.add_anchors.Given as goal

abbrev pub invariant-loop-anchor : goal.invariant-loop-anchor
invariant-loop-anchor l =
    names_view l.names.items ++ anchor_names (anchors_view (drop l.anchor-index l.anchors))
    ≡ names_view l.fn.names.items ++ anchor_names (anchors_view l.anchors)
