use Rattle.std.proofs.Common.{arith}
use Rattle.html_values_css.proofs.laws.rounds_to_nearest.Goals as goal

pub returns : goal.returns
returns c n = (omega arith, omega arith)
