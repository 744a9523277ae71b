use Rattle.std.proofs.{Common.{◌≡◌, [], ◌∷◌, ap, rules}, lemmas.List.{drop_all}}
use Rattle.html_names_core.specs.Texts.{text_view}
use Rattle.html_dom_tree.{proofs.Taking.{all_left, all_taken, more_taken}, specs.FrameViews.{anchors_view}}
use Rattle.html_links.{proofs.PutPlaces.{anchors_in_turn}, specs.TreeNames.{anchor_names}}
use Rattle.html_page_findings.specs.PlacedTexts.{placed_at}
use Rattle.html_page_findings.proofs.walk.pass_anchors.Goals as goal

pub loop-anchor-init : goal.loop-anchor-init
loop-anchor-init g c = all_left

pub loop-anchor-preserved : goal.loop-anchor-preserved
loop-anchor-preserved g c =
    let path = c.args.path.now in
    let turn = anchors_in_turn c.args.anchors.now c.loop-anchor.anchor-index c.anchor-item.result
    c.loop-anchor-test.true c.anchor-item.is in
    let text = text_view c.anchor-item.result.1 in
    let same : text_view c.in_ok-clone.field-0 ≡ text = search rules in
    more_taken (placed_at path (text ∷ [])) (ap (placed_at path) turn) c.loop-anchor.invariant
    (rw same at c.in_ok-take.ensures)

pub returns : goal.returns
returns g c =
    let path = c.args.path.now in
    all_taken (ap (λ left. placed_at path (anchor_names (anchors_view left)))
    (drop_all c.loop-anchor.anchor-index c.args.anchors.now c.loop-anchor-test.false))
    c.loop-anchor.invariant
