use Rattle.std.proofs.Common.{rules}
use Rattle.html_names_core.specs.Texts.{text_view}
use Rattle.html_anchors.proofs.LocationMaps.{names_put}
use Rattle.html_anchors.proofs.location_maps.put_name.Goals as goal

pub returns : goal.returns
returns c =
    names_put c.args.answers.now c.insert.new.self c.args.location c.in_ok-clone.field-0
    (text_view c.args.name.now) (search rules) c.in_ok-insert.ensures.updates
