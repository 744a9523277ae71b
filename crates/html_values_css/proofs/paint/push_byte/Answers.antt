use Rattle.std.proofs.{Common.{false, rules}, lemmas.Fmt.{hex_byte}}
use Rattle.html_values_css.proofs.paint.push_byte.Goals as goal

pub returns-clause-text : goal.returns-clause-text
returns-clause-text c = rw (← hex_byte false c.args.byte c.ranges.byte.fits) (search rules)
