use Rattle.std.proofs.{Common.{Ok, chars, string_bytes, sym, ap, ◌∙◌, subst}, lemmas.Result.{err_from_is_err_and}}
use Rattle.serde_json.specs.Written.{compact_text}
use Rattle.html_dom_tree.specs.Views.{element_view}
use Rattle.html_page_read.specs.{PageAnswers.{IsFault, IsPage}, PageReading.{page_read}}
use Rattle.typst_html_ffi.{proofs.Pages.{no_text_reported, read_reported, refusal_reported}, specs.PageSteps.{asked_data}}
use Rattle.typst_html_ffi.proofs.report.report_of.Goals as goal

pub returns-in_err-page : goal.returns-in_err-page
returns-in_err-page c =
    let failed = err_from_is_err_and c.from_residual.result c.from_residual.ensures.1 in
    rw (failed.1, failed.2)
    (no_text_reported (asked_data c.args.asked) c.args.limit c.args.page.now c.in_err-page.field-0.0
    c.in_err-page.ensures.fault)

pub returns-in_err-root : goal.returns-in_err-root
returns-in_err-root c =
    let limit = c.args.limit in
    let fault = c.in_err-root.field-0.0 in
    let failed = err_from_is_err_and c.from_residual-in_err-root.result
    c.from_residual-in_err-root.ensures.1 in
    rw (failed.1, failed.2)
    (refusal_reported (asked_data c.args.asked) limit c.args.page.now c.in_ok-page.page.encoding
    (chars (string_bytes c.in_ok-page.page.text)) fault c.in_ok-page.ensures.made
    (subst (λ t. IsFault (chars t) (page_read limit (chars t)) fault) c.as_str-text.ensures.value
    c.in_err-root.ensures.fault))

pub returns : goal.returns
returns c =
    let data_of = asked_data c.args.asked in
    let limit = c.args.limit in
    let root = c.in_ok-root.root in
    let notes = c.in_ok-root.field-0-1 in
    let same = c.as_str-text.ensures.value in
    read_reported data_of limit c.args.page.now c.in_ok-page.page.encoding
    (chars (string_bytes c.in_ok-page.page.text)) root notes c.in_ok-page.ensures.made
    (subst (λ t. IsPage (chars t) (page_read limit (chars t)) root notes) same
    c.in_ok-root.ensures.made)
    ∙ ap Ok (sym (c.in_ok-asked_text.ensures
    ∙ ap (λ t. compact_text (data_of t (element_view root))) (c.new.ensures.text ∙ ap chars same)))
