use Rattle.html_names_core.{proofs.Equals.{same_result}, specs.Equal.{pairs_discrete}}
use Rattle.html_values_css.proofs.properties.PropertiesPartialEq.eq.Goals as goal

pub returns : goal.returns
returns c = same_result (λ p. p) pairs_discrete c.args.self.now c.args.other.now c.same_list.result
    (rw (c.as_slice.ensures.all, c.as_slice-2.ensures.all) at c.same_list.ensures)
