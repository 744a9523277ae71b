use Rattle.html_anchors.proofs.LeadingLinks as links
use Rattle.html_anchors.proofs.laws.names_stay.Goals as goal

pub returns : goal.returns
returns c = links.names_stay
