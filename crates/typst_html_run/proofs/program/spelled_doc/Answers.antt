use Rattle.std.proofs.lemmas.Result.{err_from_is_err_and}
use Rattle.serde_json.specs.View.{view}
use Rattle.html_flow_convert.specs.Views.{items_view}
use Rattle.typst_html_run.{proofs.Answering.{text_said, name_said}, specs.Answers.{doc_answer, doc_refusals, doc_text}}
use Rattle.typst_html_json.specs.{NameRefusals.{items_refusals}, SpelledItems.{spelled_items}}
use Rattle.typst_html_run.proofs.program.spelled_doc.Goals as goal

pub returns-in_err-items : goal.returns-in_err-items
unfolding doc_answer
returns-in_err-items c =
    let failed = err_from_is_err_and c.from_residual.result c.from_residual.ensures.1 in
    rw (failed.1, failed.2)
    (name_said items_refusals (doc_refusals c.args.pretty) (doc_text c.args.pretty)
    (spelled_items (view c.args.value)) c.in_err-items.field-0.0 c.in_err-items.ensures)

pub returns : goal.returns
unfolding doc_answer
returns c =
    let made = items_view c.in_ok-items.items.items in
    rw c.in_ok-items.ensures.0
    (text_said (items_refusals made) (doc_refusals c.args.pretty made) (doc_text c.args.pretty made)
    c.items_text.result c.in_ok-items.ensures.1 c.items_text.ensures)
