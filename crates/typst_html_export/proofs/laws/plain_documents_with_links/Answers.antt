use Rattle.typst_html_export.proofs.CleanRoots.{clean_linked_documents_are_written}
use Rattle.typst_html_export.proofs.SpacesInDocuments.{plain_linked_documents_are_read, plain_linked_documents_are_seen}
use Rattle.typst_html_export.proofs.laws.plain_documents_with_links.Goals as goal

pub returns-clause-read : goal.returns-clause-read
returns-clause-read c = plain_linked_documents_are_read

pub returns-clause-seen : goal.returns-clause-seen
returns-clause-seen c = plain_linked_documents_are_seen

pub returns-clause-clean : goal.returns-clause-clean
returns-clause-clean c = clean_linked_documents_are_written
