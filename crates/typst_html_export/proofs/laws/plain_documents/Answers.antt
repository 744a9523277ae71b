use Rattle.typst_html_export.proofs.{CleanRoots.{clean_documents_are_written}, PlainRoots.{plain_documents_are_made}}
use Rattle.typst_html_export.proofs.SpacesInDocuments.{plain_documents_are_seen}
use Rattle.typst_html_export.proofs.laws.plain_documents.Goals as goal

pub returns-clause-made : goal.returns-clause-made
returns-clause-made c = plain_documents_are_made

pub returns-clause-seen : goal.returns-clause-seen
returns-clause-seen c = plain_documents_are_seen

pub returns-clause-clean : goal.returns-clause-clean
returns-clause-clean c = clean_documents_are_written
