use Rattle.html_dom_flat.proofs.FirstSiblings.{fewer_after}
use Rattle.typst_html_encode.proofs.layout.nodes_want_pretty.Goals as goal

pub loop-node-smaller : goal.loop-node-smaller
loop-node-smaller c = fewer_after c.in-Some.ensures
