use Rattle.std.proofs.Common.{chars}
use Rattle.html_clean_styles.proofs.Cuts.{at_colon}
use Rattle.html_clean_styles.proofs.cut.cut_colon.Goals as goal

pub returns : goal.returns
returns c = at_colon (chars c.args.text.now) c.cut.result c.cut.ensures
