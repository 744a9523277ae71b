use Rattle.std.proofs.Common.{ap, ◌∙◌}
use Rattle.html_names_core.specs.Texts.{texts_view}
use Rattle.html_clean_styles.specs.Styles.{declared}
use Rattle.html_clean_styles.proofs.declaration.declaration.Goals as goal

pub returns-in-None : goal.returns-in-None
unfolding declared
returns-in-None c =
    c.nothing.ensures ∙ ap (declared (texts_view c.args.properties.now)) c.in-None.ensures
