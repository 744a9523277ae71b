use Rattle.typst_html_spaces.proofs.{Anchored.{anchors_keep_clean_nodes}, CleanItems.{clean_items_make_clean_nodes}}
use Rattle.typst_html_spaces.proofs.CleanNodes.{clean_nodes_are_written}
use Rattle.typst_html_spaces.proofs.laws.clean_items_are_written.Goals as goal

pub returns-clause-made : goal.returns-clause-made
returns-clause-made c = clean_items_make_clean_nodes

pub returns-clause-written : goal.returns-clause-written
returns-clause-written c = clean_nodes_are_written

pub returns-clause-anchored : goal.returns-clause-anchored
returns-clause-anchored c = anchors_keep_clean_nodes
