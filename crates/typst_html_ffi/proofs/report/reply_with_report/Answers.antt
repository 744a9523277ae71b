use Rattle.std.proofs.Common.{refl, subst}
use Rattle.typst_html_ffi.{proofs.Pages.{fault_replied}, specs.PageSteps.{GivesReport}}
use Rattle.typst_html_ffi.proofs.report.reply_with_report.Goals as goal

pub returns-in-Ok-clause-answered : goal.returns-in-Ok-clause-answered
returns-in-Ok-clause-answered c report given =
    c.put_pieces.ensures.answered report
    (rw c.deref.ensures.value (subst (λ r. GivesReport r report) c.in-Ok.is given))

pub returns-in-Err-clause-answered : goal.returns-in-Err-clause-answered
returns-in-Err-clause-answered c report given =
    fault_replied report _ _ _ c.in-Err.fault (subst (λ r. GivesReport r report) c.in-Err.is given)
    c.unread_reply.ensures refl
