use Rattle.std.proofs.Common.{rules}
use Rattle.html_anchors.proofs.FoundLinks.{every_link_leads}
use Rattle.html_anchors.proofs.dead.dead_links.Goals as goal

pub returns-clause-dead : goal.returns-clause-dead
returns-clause-dead c = search rules

pub returns-clause-leads : goal.returns-clause-leads
returns-clause-leads c =
    every_link_leads c.args.document.now c.add_nodes.new.dead.items (returns-clause-dead c)
