use Rattle.html_anchors.proofs.anchors.create_link_anchors.Goals as goal

pub returns-clause-made : goal.returns-clause-made
returns-clause-made c = rw c.in_ok-copy.ensures at c.in_ok-made.ensures
