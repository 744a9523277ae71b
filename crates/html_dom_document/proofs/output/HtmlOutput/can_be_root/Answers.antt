use Rattle.std.proofs.Common.{◌∙◌, arith}
use Rattle.html_dom_document.proofs.Places.{element_test, none_past}
use Rattle.html_dom_document.proofs.output.HtmlOutput.can_be_root.Goals as goal

pub returns-in-Some : goal.returns-in-Some
returns-in-Some c =
    c.is_element.ensures
    ∙ element_test c.args.nodes.now c.args.place c.in-Some.node.now (grind arith)
    c.in-Some.ensures.lookup.1

pub returns-in-None : goal.returns-in-None
returns-in-None c = none_past c.args.nodes.now c.args.place (grind arith)
