use Rattle.html_page_tree_laws.proofs.TokensTaken.{turns_end}
use Rattle.html_page_tree_laws.proofs.laws.turns_end.Goals as goal

pub returns : goal.returns
returns c = turns_end
