use Rattle.html_dom_tree.specs.{NodeEqual.{node_discrete}, Views.{node_view}}
use Rattle.html_names_core.proofs.Equals.{same_result}
use Rattle.html_dom_tree.proofs.node.HtmlNodePartialEq.eq.Goals as goal

pub returns : goal.returns
returns c =
    let a = c.args.self.now in
    let b = c.args.other.now in
    let answer = c.same_node in
    same_result node_view node_discrete a b answer.result answer.ensures
