use Rattle.std.proofs.Common.{ap, ◌∙◌}
use Rattle.html_anchors.specs.NewNames.{name_for, new_name}
use Rattle.html_links.specs.UsedNames.{used_in}
use Rattle.html_anchors.proofs.names.AnchorNames.make.Goals as goal

pub returns-clause-name : goal.returns-clause-name
unfolding new_name
returns-clause-name c =
    c.in_ok-name.ensures.name
    ∙ ap (λ label. name_for label (used_in c.args.self.now.used)) c.in_ok-label_text.ensures
