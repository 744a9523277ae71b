use Rattle.std.proofs.Common.{arith}
use Rattle.html_dom_document.proofs.Places.{within, seen_at}
use Rattle.html_dom_document.proofs.output.HtmlOutput.root_node.Goals as goal

pub index-requires : goal.index-requires
index-requires c =
    let output = c.args.self.now in
    let place = within output.nodes.items output.root_index output.root_is_element in
    omega (arith, output.nodes.ok.0, place)

pub returns : goal.returns
returns c =
    let output = c.args.self.now in
    seen_at output.nodes.items output.root_index c.index.result.now output.root_is_element
    c.index.ensures
