use Rattle.html_clean_styles.proofs.Cuts.{cut_once}
use Rattle.html_clean_styles.proofs.cut.cut.Goals as goal

pub returns : goal.returns
returns c =
    cut_once c.args.mark c.args.text.now c.split_once.result c.requires c.utf8.text c.split_once.ensures.cases
