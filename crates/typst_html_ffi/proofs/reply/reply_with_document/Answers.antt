use Rattle.std.proofs.Common.{◌≡◌, IfOk, refl, string_bytes, sym, ap, ◌∙◌, subst}
use Rattle.html_anchors.specs.DeadLinks.{dead_links_view}
use Rattle.typst_html_run.specs.{DocumentAnswers.{text_given}, Replies.{GivesAnswer}}
use Rattle.typst_html_ffi.{proofs.DeadLinks.{fault_stays}, proofs.Faults.{fault_said}, specs.CallReplies.{made, with_dead_links}}
use Rattle.typst_html_ffi.proofs.reply.reply_with_document.Goals as goal

pub returns-in-Ok-clause-answered : goal.returns-in-Ok-clause-answered
returns-in-Ok-clause-answered c answer links given answered = (
  c.put-reply.result,
  made (string_bytes c.in-Ok.document.text)
      (subst (λ t. GivesAnswer (text_given t) answer) c.in-Ok.is given)
      (rw (← c.as_bytes.ensures.value) c.put-reply.ensures.reply)
      (rw (← c.as_bytes.ensures.value) c.put-reply.ensures.output),
  c.with_dead_links.ensures ∙ ap (λ ls. with_dead_links ls c.put-reply.result)
      (ap dead_links_view c.deref.ensures.value
      ∙ subst (λ t. IfOk t (λ d. dead_links_view d.dead_links.items ≡ links)) c.in-Ok.is answered),
)

pub returns-in-Err-clause-answered : goal.returns-in-Err-clause-answered
returns-in-Err-clause-answered c answer links given answered = (
  c.fault_reply.result,
  fault_said answer _ _ _ c.in-Err.fault (subst (λ t. GivesAnswer (text_given t) answer) c.in-Err.is given)
      c.fault_reply.ensures refl,
  rw c.fault_reply.ensures (sym (fault_stays links c.in-Err.fault)),
)
