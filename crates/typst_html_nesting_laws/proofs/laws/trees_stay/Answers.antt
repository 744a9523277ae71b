use Rattle.typst_html_nesting_laws.proofs.Roots.{trees_stay}
use Rattle.typst_html_nesting_laws.proofs.laws.trees_stay.Goals as goal

pub returns : goal.returns
returns c = trees_stay
