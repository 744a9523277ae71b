use Rattle.html_flow_places.proofs.HeldLocations.{put_text}
use Rattle.html_flow_places.proofs.named_places.put.Goals as goal

pub returns : goal.returns
returns c = record {
  placed = put_text c.args.locations.now c.insert.new.self c.in_ok-from_str.field-0 c.args.name.now
      c.args.location c.in_ok-from_str.ensures.ok c.in_ok-insert.ensures.updates;
  kept = tt;
}
