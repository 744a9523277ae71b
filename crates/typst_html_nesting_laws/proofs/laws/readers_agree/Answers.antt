use Rattle.typst_html_nesting_laws.proofs.{ReadersAgree.{readers_agree}, Roots.{trees_stay}}
use Rattle.typst_html_nesting_laws.proofs.laws.readers_agree.Goals as goal

pub returns : goal.returns
returns c = readers_agree trees_stay
