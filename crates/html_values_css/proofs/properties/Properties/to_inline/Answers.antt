use Rattle.html_values_css.proofs.Styles.{inline_characters}
use Rattle.html_values_css.proofs.properties.Properties.to_inline.Goals as goal

pub returns-clause-characters : goal.returns-clause-characters
returns-clause-characters c = rw (← c.as_slice.ensures.all) (inline_characters c.as_slice.result.now)
