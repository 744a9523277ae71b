use Rattle.std.proofs.Common.{ap, ◌∙◌, chars, [], refl}
use Rattle.html_names_core.proofs.Lists.{chars_ascii}
use Rattle.html_anchors.proofs.names.label_text.Goals as goal

pub returns-in-None : goal.returns-in-None
returns-in-None c = rw c.in-None.is (ap chars c.new.ensures.bytes ∙ chars_ascii [] refl)
