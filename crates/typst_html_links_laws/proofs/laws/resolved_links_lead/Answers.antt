use Rattle.typst_html_links_laws.proofs.LinkedChecks.{resolved_stay_sound}
use Rattle.typst_html_links_laws.proofs.laws.resolved_links_lead.Goals as goal

pub returns : goal.returns
returns c = resolved_stay_sound
