use Rattle.std.proofs.lemmas.Result.{err_from_is_err_and}
use Rattle.typst_html_run.proofs.Answering.{json_said, no_json_said}
use Rattle.typst_html_run.specs.{Answers.{answer_to}, FragmentAnswers.{fragment_answer, fragment_input_answer}}
use Rattle.typst_html_json.specs.{Json.{json_of}, JsonPlaces.{input_place}, SpelledItems.{spelled_document_items}}
use Rattle.serde_json.specs.View.{view}
use Rattle.typst_html_run.proofs.fragment.text_of_fragment.Goals as goal

pub returns-in_err-value : goal.returns-in_err-value
unfolding fragment_input_answer
returns-in_err-value c =
    let failed = err_from_is_err_and c.from_residual.result c.from_residual.ensures.1 in
    rw (failed.1, failed.2)
    (no_json_said
    (λ d. answer_to (fragment_answer c.args.level c.args.limit) (spelled_document_items d))
    (json_of c.args.input.now) (input_place c.args.input.now) c.in_err-value.field-0.0 c.in_err-value.ensures)

pub returns : goal.returns
unfolding fragment_input_answer
returns c =
    json_said
    (λ d. answer_to (fragment_answer c.args.level c.args.limit) (spelled_document_items d))
    (json_of c.args.input.now) (input_place c.args.input.now) (view c.in_ok-value.value) c.spelled_text.result
    c.in_ok-value.ensures c.spelled_text.ensures
