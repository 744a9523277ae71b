use Rattle.html_dom_tree.specs.{NodeEqual.{pairs_discrete}, Views.{attrs_view}}
use Rattle.html_names_core.proofs.Equals.{same_result}
use Rattle.html_dom_tree.proofs.attrs.HtmlAttrsPartialEq.eq.Goals as goal

pub returns : goal.returns
returns c =
    let a = c.args.self.now in
    let b = c.args.other.now in
    let answer = c.same_attrs in
    same_result attrs_view pairs_discrete a b answer.result answer.ensures
