use Rattle.html_names_core.{proofs.Equals.{same_law}, specs.Equal.{pairs_discrete}}
use Rattle.html_values_css.proofs.laws.equal_properties.Goals as goal

pub returns : goal.returns
returns c = same_law (λ p. p) pairs_discrete c.args.a.now c.args.b.now _ c.eq.ensures
