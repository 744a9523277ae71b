use Rattle.html_anchors.proofs.Consequences.{no_target_no_change}
use Rattle.html_anchors.proofs.laws.no_target_no_change.Goals as goal

pub returns : goal.returns
returns c = no_target_no_change
