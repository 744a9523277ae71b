use Rattle.html_dom_walk.specs.Walks.{visits_left}
use Rattle.tests_pages.proofs.push_tree.Given as goal

abbrev pub decreases-loop-walk : goal.decreases-loop-walk
decreases-loop-walk l = visits_left l.walk
