use Rattle.std.proofs.lemmas.Result.{err_from_is_err_and}
use Rattle.typst_html_run.{proofs.Answering.{json_said, no_json_said}, specs.Answers.{input_answer, value_answer}}
use Rattle.typst_html_json.specs.{Json.{json_of}, JsonPlaces.{input_place}}
use Rattle.serde_json.specs.View.{view}
use Rattle.typst_html_run.proofs.program.answer.Goals as goal

pub returns-in_err-value : goal.returns-in_err-value
unfolding input_answer
returns-in_err-value c =
    let failed = err_from_is_err_and c.from_residual.result c.from_residual.ensures.1 in
    rw (failed.1, failed.2)
    (no_json_said (value_answer c.args.task c.args.pretty) (json_of c.args.input.items)
    (input_place c.args.input.items) c.in_err-value.field-0.0
    (rw c.deref.ensures.value at c.in_err-value.ensures))

pub returns : goal.returns
unfolding input_answer
returns c =
    json_said (value_answer c.args.task c.args.pretty) (json_of c.args.input.items)
    (input_place c.args.input.items) (view c.in_ok-value.value) c.value_text.result
    (rw c.deref.ensures.value at c.in_ok-value.ensures) c.value_text.ensures
