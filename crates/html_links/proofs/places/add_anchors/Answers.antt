use Rattle.html_links.{proofs.PutPlaces.{no_anchor_put, one_anchor_put}, specs.UsedNames.{used_in}}
use Rattle.html_links.proofs.places.add_anchors.Goals as goal

pub loop-anchor-preserved : goal.loop-anchor-preserved
loop-anchor-preserved c =
    one_anchor_put c.args.anchors.now c.loop-anchor.anchor-index c.anchor-item.result
    (used_in c.loop-anchor.names) (used_in c.add_name.new.names) _ c.loop-anchor-test.true
    c.anchor-item.is c.loop-anchor.invariant c.in_ok-add_name.ensures

pub returns : goal.returns
returns c =
    no_anchor_put c.args.anchors.now c.loop-anchor.anchor-index (used_in c.loop-anchor.names) _
    c.loop-anchor-test.false c.loop-anchor.invariant
