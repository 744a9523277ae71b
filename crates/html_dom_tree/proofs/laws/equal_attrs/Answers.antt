use Rattle.html_names_core.proofs.Equals.{same_law}
use Rattle.html_dom_tree.specs.{NodeEqual.{pairs_discrete}, Views.{attrs_view}}
use Rattle.html_dom_tree.proofs.laws.equal_attrs.Goals as goal

pub returns : goal.returns
returns c = same_law attrs_view pairs_discrete c.args.a.now c.args.b.now _ c.eq.ensures
