use Rattle.html_values_css.proofs.Names.{listed_none}
use Rattle.html_values_css.proofs.properties.Properties.with_capacity.Goals as goal

pub invariant_of-result : goal.invariant_of-result
invariant_of-result c = rw c.in_ok-with_room.ensures listed_none
