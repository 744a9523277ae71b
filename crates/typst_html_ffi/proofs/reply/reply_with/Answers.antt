use Rattle.std.proofs.Common.{refl, string_bytes, subst}
use Rattle.typst_html_run.specs.Replies.{GivesAnswer}
use Rattle.typst_html_ffi.{proofs.Faults.{fault_said}, specs.CallReplies.{made}}
use Rattle.typst_html_ffi.proofs.reply.reply_with.Goals as goal

pub returns-in-Ok-clause-answered : goal.returns-in-Ok-clause-answered
returns-in-Ok-clause-answered c answer given =
    made (string_bytes c.in-Ok.text) (subst (λ t. GivesAnswer t answer) c.in-Ok.is given)
    (rw (← c.as_bytes.ensures.value) c.put.ensures.reply)
    (rw (← c.as_bytes.ensures.value) c.put.ensures.output)

pub returns-in-Err-clause-answered : goal.returns-in-Err-clause-answered
returns-in-Err-clause-answered c answer given =
    fault_said answer _ _ _ c.in-Err.fault (subst (λ t. GivesAnswer t answer) c.in-Err.is given)
    c.fault_reply.ensures refl
