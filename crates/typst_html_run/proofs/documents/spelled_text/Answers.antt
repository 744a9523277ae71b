use Rattle.std.proofs.lemmas.Result.{err_from_is_err_and}
use Rattle.serde_json.specs.View.{view}
use Rattle.typst_html_run.proofs.Answering.{text_said, name_said}
use Rattle.typst_html_run.specs.DocumentAnswers.{document_answer, document_refusals, spelling_text, text_given}
use Rattle.typst_html_json.specs.{SpelledDocuments.{names_refusals, spelled_document}, Spelling.{spelling_view}}
use Rattle.typst_html_run.proofs.documents.spelled_text.Goals as goal

pub returns-in_err-document-clause-text : goal.returns-in_err-document-clause-text
unfolding document_answer
returns-in_err-document-clause-text c =
    let failed = err_from_is_err_and c.from_residual.result c.from_residual.ensures.1 in
    rw (failed.1, failed.2)
    (name_said names_refusals (document_refusals c.args.settings.now)
    (spelling_text c.args.settings.now) (spelled_document (view c.args.value))
    c.in_err-document.field-0.0 c.in_err-document.ensures)

pub returns-clause-text : goal.returns-clause-text
unfolding document_answer
returns-clause-text c =
    let made = spelling_view c.in_ok-document.document in
    rw c.in_ok-document.ensures.0
    (text_said (names_refusals made) (document_refusals c.args.settings.now made)
    (spelling_text c.args.settings.now made) (text_given c.spelling_text.result)
    c.in_ok-document.ensures.1 c.spelling_text.ensures.text)

pub returns-clause-dead : goal.returns-clause-dead
returns-clause-dead c = rw c.in_ok-document.ensures.0 c.spelling_text.ensures.dead
