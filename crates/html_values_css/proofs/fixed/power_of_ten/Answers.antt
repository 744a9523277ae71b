use Rattle.html_values_css.proofs.Digits.{power_above}
use Rattle.html_values_css.proofs.fixed.power_of_ten.Goals as goal

pub returns-clause-above : goal.returns-clause-above
returns-clause-above c = rw c.pow.ensures (power_above c.args.exponent)
