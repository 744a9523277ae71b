use Rattle.html_dom_tree.specs.{NodeEqual.{tag_discrete}, Views.{tag_view}}
use Rattle.html_names_core.proofs.Equals.{same_result}
use Rattle.html_dom_tree.proofs.introspection.TagPartialEq.eq.Goals as goal

pub returns : goal.returns
returns c =
    let a = c.args.self.now in
    let b = c.args.other.now in
    let answer = c.same_tag in
    same_result tag_view tag_discrete a b answer.result answer.ensures
