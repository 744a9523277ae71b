use Rattle.std.{proofs.Common.{ap, ◌∙◌, rules}, specs.Prelude.{option_to_list}}
use Rattle.html_dom_tree.specs.FrameViews.{anchors_view, html_frame_view}
use Rattle.html_links.{proofs.PutPlaces.{both_put}, specs.TreeNames.{anchor_names}, specs.UsedNames.{used_in, with_names}}
use Rattle.html_links.proofs.places.add_frame.Goals as goal

pub returns : goal.returns
returns c =
    let f = html_frame_view c.args.frame.now in
    both_put (option_to_list f.id) (anchor_names f.anchors) (used_in c.args.names.now)
    (used_in c.add_optional.new.names) (used_in c.add_anchors.new.names) (search rules)
    (c.in_ok-add_anchors.ensures
    ∙ ap (λ as'. with_names (anchor_names (anchors_view as')) (used_in c.add_optional.new.names))
    c.deref.ensures.value)
