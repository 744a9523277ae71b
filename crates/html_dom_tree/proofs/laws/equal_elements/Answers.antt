use Rattle.html_names_core.proofs.Equals.{same_law}
use Rattle.html_dom_tree.specs.{NodeEqual.{element_discrete}, Views.{element_view}}
use Rattle.html_dom_tree.proofs.laws.equal_elements.Goals as goal

pub returns : goal.returns
returns c = same_law element_view element_discrete c.args.a.now c.args.b.now _ c.eq.ensures
