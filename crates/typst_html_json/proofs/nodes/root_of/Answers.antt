use Rattle.typst_html_json.proofs.NodeRows.{first_element}
use Rattle.typst_html_json.proofs.nodes.root_of.Goals as goal

pub returns : goal.returns
returns c =
    first_element c.in_ok-nodes.nodes.items _ c.in-Element.root c.swap_remove.result
    c.in_ok-nodes.ensures c.swap_remove.ensures.value c.in-Element.is c.requires
