use Rattle.std.proofs.lemmas.Result.{err_from_is_err_and}
use Rattle.serde_json.specs.View.{view}
use Rattle.typst_html_run.proofs.Answering.{text_said, name_said}
use Rattle.typst_html_run.specs.UnusedInformation.{given_names, unused_answer, unused_refusals, unused_text}
use Rattle.typst_html_json.specs.{SpelledDocuments.{names_refusals, spelled_document}, Spelling.{spelling_view}}
use Rattle.typst_html_run.proofs.unused.unused_of_value.Goals as goal

pub returns-in_err-document : goal.returns-in_err-document
unfolding unused_answer
returns-in_err-document c =
    let failed = err_from_is_err_and c.from_residual-in_err-document.result
    c.from_residual-in_err-document.ensures.1 in
    rw (failed.1, failed.2)
    (name_said names_refusals (unused_refusals c.args.limit)
    (unused_text (given_names (view c.args.value))) (spelled_document (view c.args.value))
    c.in_err-document.field-0.0 c.in_err-document.ensures)

pub returns : goal.returns
unfolding unused_answer
returns c =
    let made = spelling_view c.in_ok-document.document in
    let names = given_names (view c.args.value) in
    rw c.in_ok-document.ensures.0
    (text_said (names_refusals made) (unused_refusals c.args.limit made)
    (unused_text names made) c.unused_text.result
    c.in_ok-document.ensures.1
    (rw (← c.in_ok-given.ensures, ← c.deref.ensures.value) c.unused_text.ensures))
