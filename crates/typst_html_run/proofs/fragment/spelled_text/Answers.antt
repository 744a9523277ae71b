use Rattle.std.proofs.lemmas.Result.{err_from_is_err_and}
use Rattle.serde_json.specs.View.{view}
use Rattle.html_flow_convert.specs.Views.{items_view}
use Rattle.typst_html_run.proofs.Answering.{text_said, name_said}
use Rattle.typst_html_run.specs.FragmentAnswers.{fragment_answer, fragment_refusals, fragment_text}
use Rattle.typst_html_json.specs.{NameRefusals.{items_refusals}, SpelledItems.{spelled_document_items}}
use Rattle.typst_html_run.proofs.fragment.spelled_text.Goals as goal

pub returns-in_err-items : goal.returns-in_err-items
unfolding fragment_answer
returns-in_err-items c =
    let failed = err_from_is_err_and c.from_residual.result c.from_residual.ensures.1 in
    rw (failed.1, failed.2)
    (name_said items_refusals (fragment_refusals c.args.level c.args.limit)
    (fragment_text c.args.level) (spelled_document_items (view c.args.value))
    c.in_err-items.field-0.0 c.in_err-items.ensures)

pub returns : goal.returns
unfolding fragment_answer
returns c =
    let made = items_view c.in_ok-items.items.items in
    rw c.in_ok-items.ensures.0
    (text_said (items_refusals made) (fragment_refusals c.args.level c.args.limit made)
    (fragment_text c.args.level made) c.fragment_text.result c.in_ok-items.ensures.1
    (rw c.deref.ensures.value at c.fragment_text.ensures))
