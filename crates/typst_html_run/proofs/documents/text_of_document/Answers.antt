use Rattle.std.proofs.lemmas.Result.{err_from_is_err_and}
use Rattle.typst_html_run.{proofs.Answering.{json_said, no_json_said}, specs.Answers.{answer_to}}
use Rattle.typst_html_run.specs.DocumentAnswers.{document_answer, document_input_answer, input_dead_links, text_given}
use Rattle.typst_html_json.specs.{Json.{json_of}, JsonPlaces.{input_place}, SpelledDocuments.{spelled_document}}
use Rattle.serde_json.specs.View.{view}
use Rattle.typst_html_run.proofs.documents.text_of_document.Goals as goal

pub returns-in_err-value-clause-text : goal.returns-in_err-value-clause-text
unfolding document_input_answer
returns-in_err-value-clause-text c =
    let failed = err_from_is_err_and c.from_residual.result c.from_residual.ensures.1 in
    rw (failed.1, failed.2)
    (no_json_said (λ d. answer_to (document_answer c.args.settings.now) (spelled_document d))
    (json_of c.args.input.now) (input_place c.args.input.now) c.in_err-value.field-0.0 c.in_err-value.ensures)

pub returns-clause-text : goal.returns-clause-text
unfolding document_input_answer
returns-clause-text c =
    json_said (λ d. answer_to (document_answer c.args.settings.now) (spelled_document d))
    (json_of c.args.input.now) (input_place c.args.input.now) (view c.in_ok-value.value) (text_given c.spelled_text.result)
    c.in_ok-value.ensures c.spelled_text.ensures.text

pub returns-clause-dead : goal.returns-clause-dead
unfolding input_dead_links
returns-clause-dead c = rw c.in_ok-value.ensures c.spelled_text.ensures.dead
