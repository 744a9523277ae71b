use Rattle.std.proofs.lemmas.Result.{err_from_is_err_and}
use Rattle.serde_json.specs.View.{view}
use Rattle.typst_html_json.{proofs.RefusedBodies.{missing_refused}, specs.SpelledDocuments.{spelling_from, parts_at, names_refusals}}
use Rattle.typst_html_json.proofs.documents.into_document.Goals as goal

pub returns-in_err-parts : goal.returns-in_err-parts
returns-in_err-parts c =
    let failed = err_from_is_err_and c.from_residual.result c.from_residual.ensures.1 in
    rw (failed.1, failed.2)
    (missing_refused names_refusals spelling_from (parts_at (view c.args.value))
    c.in_err-parts.field-0.0 c.in_err-parts.ensures)
