-- The answers that a text or a fault stand for, and the outputs of replies.
use Rattle.std.specs.{Prelude.{◌≡◌, ℕ, List, Option, Result, MatchResult, String, string_bytes}, declared.alloc.Global.{Global}}
use Rattle.typst_html_run.specs.{Answers.{Answer, text_answer, refused_answer, bad_input}, Outputs.{Output, IsAll, output_of, words_output}}
use Rattle.typst_html_run.specs.declared.program.Reply.{Reply}
use Rattle.typst_html_json.specs.declared.fault.{Fault.{Fault}, Fault.TheVariants.{OutOfMemory, BadInput, Refused}}

abbrev pub reply_output : Reply → Output
reply_output r = record { status = r.status; bytes = r.text.items }

abbrev pub IsReply : Reply → Output → Type 0
IsReply r o = reply_output r ≡ o

-- the answer says why there is no text, unless an allocation failed
abbrev pub Says : Answer → Fault → Type 0
Says a OutOfMemory = Unit {0}
Says a (BadInput place) = a ≡ bad_input place
Says a (Refused number span) = a ≡ refused_answer (number, span.0)

-- the text is the whole answer, or the fault is what the answer says
abbrev pub GivesAnswer : Result (String Global) Fault → Answer → Type 0
GivesAnswer r a = MatchResult r (λ text. a ≡ text_answer (string_bytes text)) (Says a)

-- the output says why there is no text, unless an allocation failed
abbrev pub IsFaultOutput : Output → Fault → Type 0
IsFaultOutput o OutOfMemory = Unit {0}
IsFaultOutput o (BadInput place) = o ≡ output_of (bad_input place)
IsFaultOutput o (Refused number span) = o ≡ output_of (refused_answer (number, span.0))

-- the text is the whole output, or the output says why there is none
abbrev pub GivesOutput : Result (String Global) Fault → Output → Type 0
GivesOutput r o =
    MatchResult r (λ text. o ≡ output_of (text_answer (string_bytes text))) (IsFaultOutput o)

-- the result agrees with the output for some input, which is all that the reader has
abbrev pub GivesOutputOn : (words : List (List ℕ)) (remaining : Option (List ℕ))
    → Result (String Global) Fault → Type 0
GivesOutputOn words remaining r =
    (input : List ℕ) × IsAll input remaining × GivesOutput r (words_output words input)
