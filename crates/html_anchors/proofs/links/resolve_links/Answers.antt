use Rattle.html_anchors.proofs.links.resolve_links.Goals as goal

pub returns-clause-links : goal.returns-clause-links
returns-clause-links c = rw c.in_ok-copy.ensures at c.in_ok-document.ensures
