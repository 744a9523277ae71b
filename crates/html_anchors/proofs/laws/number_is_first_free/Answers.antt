use Rattle.html_anchors.proofs.Numbers.{is_first_free}
use Rattle.html_anchors.proofs.laws.number_is_first_free.Goals as goal

pub returns : goal.returns
returns c = is_first_free
