use Rattle.typst_html_links_laws.proofs.LinkedChecks.{document_stays_sound}
use Rattle.typst_html_links_laws.proofs.laws.links_stay_sound.Goals as goal

pub returns : goal.returns
returns c = document_stays_sound c.args.document.now
