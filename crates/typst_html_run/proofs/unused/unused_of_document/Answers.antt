use Rattle.std.proofs.lemmas.Result.{err_from_is_err_and}
use Rattle.typst_html_run.{proofs.Answering.{json_said, no_json_said}, specs.UnusedInformation.{unused_input_answer, unused_value_answer}}
use Rattle.typst_html_json.specs.{Json.{json_of}, JsonPlaces.{input_place}}
use Rattle.serde_json.specs.View.{view}
use Rattle.typst_html_run.proofs.unused.unused_of_document.Goals as goal

pub returns-in_err-value : goal.returns-in_err-value
unfolding unused_input_answer
returns-in_err-value c =
    let failed = err_from_is_err_and c.from_residual.result c.from_residual.ensures.1 in
    rw (failed.1, failed.2)
    (no_json_said (unused_value_answer c.args.limit) (json_of c.args.input.now) (input_place c.args.input.now)
    c.in_err-value.field-0.0 c.in_err-value.ensures)

pub returns : goal.returns
unfolding unused_input_answer
returns c =
    json_said (unused_value_answer c.args.limit) (json_of c.args.input.now) (input_place c.args.input.now)
    (view c.in_ok-value.value) c.unused_of_value.result c.in_ok-value.ensures
    c.unused_of_value.ensures
