-- Why there is no text is what the answer says.
use Rattle.std.specs.Prelude.{◌≡◌, ℕ, List}
use Rattle.typst_html_run.specs.{Answers.{Answer}, Replies.{Says}}
use Rattle.typst_html_json.specs.declared.fault.{Fault.{Fault}, Fault.TheVariants.{OutOfMemory, BadInput, Refused}}
use Rattle.typst_html_ffi.specs.{CallReplies.{Replies, refused, bad, failed, fault_reply}, declared.reply.Reply.{Reply}}

pub fault_said : (a : Answer) (old : List ℕ) (reply : Reply) (new : List ℕ) (f : Fault) → Says a f
    → reply ≡ fault_reply f → new ≡ old → Replies a old reply new
fault_said a old reply new OutOfMemory said is kept = failed is kept
fault_said a old reply new (BadInput place) said is kept = bad place said is kept
fault_said a old reply new (Refused number span) said is kept = refused number span.0 said is kept
