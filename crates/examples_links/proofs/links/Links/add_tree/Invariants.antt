use Rattle.html_dom_walk.specs.Walks.{visits_left}
use Rattle.examples_links.proofs.links.Links.add_tree.Given as goal

abbrev pub decreases-loop-walk : goal.decreases-loop-walk
decreases-loop-walk l = visits_left l.walk
