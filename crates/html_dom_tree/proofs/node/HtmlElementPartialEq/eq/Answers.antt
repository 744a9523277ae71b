use Rattle.html_dom_tree.specs.{NodeEqual.{element_discrete}, Views.{element_view}}
use Rattle.html_names_core.proofs.Equals.{same_result}
use Rattle.html_dom_tree.proofs.node.HtmlElementPartialEq.eq.Goals as goal

pub returns : goal.returns
returns c =
    let a = c.args.self.now in
    let b = c.args.other.now in
    let answer = c.same_element in
    same_result element_view element_discrete a b answer.result answer.ensures
