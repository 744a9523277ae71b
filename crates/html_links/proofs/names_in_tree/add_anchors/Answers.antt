use Rattle.std.proofs.Common.{refl, rules}
use Rattle.html_dom_tree.specs.FrameViews.{anchors_view}
use Rattle.html_links.{proofs.Gathering.{gathered_all}, specs.Distinct.{names_view}, specs.TreeNames.{anchor_names}}
use Rattle.html_links.proofs.names_in_tree.add_anchors.Goals as goal

pub returns : goal.returns
returns c =
    gathered_all (λ as'. anchor_names (anchors_view as')) (λ x xs. refl) refl c.args.anchors.now
    c.loop-anchor.anchor-index (names_view c.loop-anchor.names.items) _ (search rules)
    c.loop-anchor.invariant
