use Rattle.html_page_tree_laws.proofs.TokensTaken.{tokens_taken}
use Rattle.html_page_tree_laws.proofs.laws.tokens_are_taken.Goals as goal

pub returns : goal.returns
returns c = tokens_taken
