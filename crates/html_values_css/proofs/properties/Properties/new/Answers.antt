use Rattle.html_values_css.proofs.Names.{listed_none}
use Rattle.html_values_css.proofs.properties.Properties.new.Goals as goal

pub invariant_of-result : goal.invariant_of-result
invariant_of-result c = listed_none
