use Rattle.typst_html_links_laws.proofs.MadeDocuments.{no_hyperlink_is_made}
use Rattle.typst_html_links_laws.proofs.laws.no_hyperlink_is_made.Goals as goal

pub returns : goal.returns
returns c = no_hyperlink_is_made
