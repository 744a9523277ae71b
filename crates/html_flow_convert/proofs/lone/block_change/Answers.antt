use Rattle.std.proofs.Common.{rules}
use Rattle.html_dom_tree.specs.declared.node.HtmlNode.{the_lemmas}
use Rattle.html_flow_convert.proofs.LoneNodes.{block_word}
use Rattle.html_flow_convert.proofs.lone.block_change.Goals as goal

pub returns-in-Frame : goal.returns-in-Frame
returns-in-Frame c = rw block_word (search (rules, the_lemmas))
