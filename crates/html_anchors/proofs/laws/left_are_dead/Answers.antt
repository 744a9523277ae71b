use Rattle.html_anchors.proofs.FoundLinks.{left_links_are_dead}
use Rattle.html_anchors.proofs.laws.left_are_dead.Goals as goal

pub returns-clause-document : goal.returns-clause-document
returns-clause-document c = left_links_are_dead
