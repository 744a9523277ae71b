use Rattle.typst_html_nesting_laws.proofs.Fragments.{fragments_stay}
use Rattle.typst_html_nesting_laws.proofs.laws.fragments_stay.Goals as goal

pub returns : goal.returns
returns c = fragments_stay
