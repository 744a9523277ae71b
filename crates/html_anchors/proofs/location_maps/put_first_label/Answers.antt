use Rattle.std.proofs.Common.{sym, ◌∙◌}
use Rattle.html_dom_tree.specs.FrameViews.{optional_text_view}
use Rattle.html_anchors.proofs.LocationMaps.{label_put, no_label}
use Rattle.html_anchors.proofs.location_maps.put_first_label.Goals as goal

pub returns-in_ok-insert : goal.returns-in_ok-insert
returns-in_ok-insert c =
    label_put c.args.labels.now c.insert.new.self c.args.location c.in_ok-copy_label.field-0
    (optional_text_view c.args.label.now) c.in_ok-copy_label.ensures c.in_ok-insert.ensures.updates
    (no_label c.args.labels.now c.args.location
    (sym c.contains_key.ensures ∙ c.if-not-contains_key.true))
