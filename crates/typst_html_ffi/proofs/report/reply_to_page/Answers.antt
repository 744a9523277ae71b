use Rattle.std.proofs.Common.{sym, ◌∙◌, subst}
use Rattle.typst_html_ffi.specs.{PageReports.{Reports, report_within}, PageSteps.{asked_data}}
use Rattle.typst_html_ffi.proofs.report.reply_to_page.Goals as goal

pub returns-in-Some-clause-answered : goal.returns-in-Some-clause-answered
returns-in-Some-clause-answered c =
    subst (λ o. Reports (report_within (asked_data c.args.asked) c.args.page.now o) c.args.output.now
    c.reply_with_report.result c.reply_with_report.new.output)
    (sym c.in-Some.is ∙ c.page_limit_of.ensures)
    (c.reply_with_report.ensures.answered _ c.report_of.ensures)
