use Rattle.html_names_core.proofs.Equals.{same_law}
use Rattle.html_dom_tree.specs.{NodeEqual.{node_discrete}, Views.{node_view}}
use Rattle.html_dom_tree.proofs.laws.equal_nodes.Goals as goal

pub returns : goal.returns
returns c = same_law node_view node_discrete c.args.a.now c.args.b.now _ c.eq.ensures
