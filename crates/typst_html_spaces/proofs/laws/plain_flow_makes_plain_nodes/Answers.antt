use Rattle.typst_html_spaces.proofs.PlainNodes.{makes_plain_nodes, can_be_read, names_are_inside}
use Rattle.typst_html_spaces.proofs.laws.plain_flow_makes_plain_nodes.Goals as goal

pub returns-clause-made : goal.returns-clause-made
returns-clause-made c = makes_plain_nodes

pub returns-clause-read : goal.returns-clause-read
returns-clause-read c = can_be_read

pub returns-clause-inside : goal.returns-clause-inside
returns-clause-inside c = names_are_inside
