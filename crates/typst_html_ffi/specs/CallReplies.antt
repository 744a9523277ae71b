-- The reply of a call, and what the call leaves in the caller's buffer.
use Rattle.std.specs.Prelude.{◌≡◌, ◌==◌, ◌&&◌, ℕ, Bool, true, false, List, [], ◌∷◌, ◌++◌, length, drop, nat_le, Option, Some, None, option_map, option_and_then, if◌then◌else◌}
use Rattle.html_anchors.specs.Links.{DeadLinkView}
use Rattle.typst_html_run.specs.Answers.{Answer, text_answer, refused_answer, bad_input, answer_if, task_answer}
use Rattle.typst_html_run.specs.{DocumentAnswers.{document_input_answer, input_dead_links}, declared.documents.Settings.{Settings}}
use Rattle.typst_html_run.specs.declared.words.{Task.{Task}, Task.TheVariants.{Tree, Doc}}
use Rattle.typst_html_json.specs.declared.fault.{Fault.{Fault}, InputPlace.{InputPlace}, Fault.TheVariants.{OutOfMemory, BadInput, Refused}}
use Rattle.typst_html_json.specs.declared.fault.InputPlace.TheVariants.{Unknown, Text, Form}
use Rattle.typst_html_ffi.specs.declared.reply.Reply.{Reply}

-- the task of that kind: 0 is a tree, and 1 the document of a list of items
abbrev pub task_of : (kind : ℕ) → Option Task
task_of kind = if kind == 0 then Some Tree else (if kind == 1 then Some Doc else None)

-- what a number stands for: 0 is no, and 1 yes
abbrev pub yes_or_no : (number : ℕ) → Option Bool
yes_or_no number = if number == 0 then Some false else (if number == 1 then Some true else None)

-- whether pretty text is wanted: 0 is plain, and 1 pretty
abbrev pub pretty_of : (layout : ℕ) → Option Bool
pretty_of = yes_or_no

-- the task, and whether pretty text is wanted, if both numbers are valid
abbrev pub wanted_task : (kind layout : ℕ) → Option (Task × Bool)
wanted_task kind layout =
    option_and_then (λ task. option_map (λ pretty. (task, pretty)) (pretty_of layout)) (task_of kind)

-- the answer to an input: that of the program, or bad input if a number is invalid
abbrev pub write_answer : (kind layout : ℕ) (input : List ℕ) → Answer
write_answer kind layout input = answer_if Unknown (task_answer input) (wanted_task kind layout)

-- how deep the bodies of items may be nested: from 1 to 10,000
abbrev pub limit_of : (limit : ℕ) → Option ℕ
limit_of limit = if nat_le 1 limit && nat_le limit 10000 then Some limit else None

-- how deep the elements of a page may be nested: from 1 to 1,000
abbrev pub page_limit_of : (limit : ℕ) → Option ℕ
page_limit_of limit = if nat_le 1 limit && nat_le limit 1000 then Some limit else None

-- how a document is written, if all three numbers are valid
abbrev pub wanted_settings : (layout links limit : ℕ) → Option Settings
wanted_settings layout links limit = option_and_then (λ pretty. option_and_then (λ resolved.
    option_map (λ most. record { pretty = pretty; links = resolved; limit = most })
    (limit_of limit)) (yes_or_no links)) (pretty_of layout)

-- the answer to an input that spells a document, or bad input if a number is invalid
abbrev pub document_call_answer : (layout links limit : ℕ) (input : List ℕ) → Answer
document_call_answer layout links limit input = answer_if Unknown
    (λ settings. document_input_answer settings input) (wanted_settings layout links limit)

-- the links of that document that lead nowhere; none if a number is invalid
abbrev pub dead_links_with : Option Settings → (input : List ℕ) → List DeadLinkView
dead_links_with None input = []
dead_links_with (Some settings) input = input_dead_links settings input

abbrev pub call_dead_links : (layout links limit : ℕ) (input : List ℕ) → List DeadLinkView
call_dead_links layout links limit input =
    dead_links_with (wanted_settings layout links limit) input

abbrev pub without_text : (status number span : ℕ) → Reply
without_text status number span = record {
  length = 0;
  span = span;
  line = 0;
  column = 0;
  status = status;
  number = number;
}

-- the reply to an input that is bad at that place
abbrev pub bad_reply : InputPlace → Reply
bad_reply Unknown = without_text 2 0 0
bad_reply (Text line column) = record (without_text 2 0 0) { line = line; column = column }
bad_reply (Form n) = without_text 2 0 n

-- the reply for a fault
abbrev pub fault_reply : Fault → Reply
fault_reply OutOfMemory = without_text 3 0 0
fault_reply (BadInput place) = bad_reply place
fault_reply (Refused number span) = without_text 1 number span.0

-- the reply for a text: the status is 0 if it fits, and otherwise 4
abbrev pub text_reply : (bytes old : List ℕ) → Reply
text_reply bytes old = record {
  length = length bytes;
  span = 0;
  line = 0;
  column = 0;
  status = if nat_le (length bytes) (length old) then 0 else 4;
  number = 0;
}

-- the buffer after the call: the text and then the old bytes, or only these if the text does not
-- fit
abbrev pub buffer_with : (bytes old : List ℕ) → List ℕ
buffer_with bytes old =
    if nat_le (length bytes) (length old) then bytes ++ drop (length bytes) old else old

-- the call returns the reply for the answer and writes its text, or an allocation failed and the
-- buffer is unchanged
pub data Replies (a : Answer) (old : List ℕ) (reply : Reply) (new : List ℕ) : Type 0 where
  made : (bytes : List ℕ) → a ≡ text_answer bytes → reply ≡ text_reply bytes old
      → new ≡ buffer_with bytes old → Replies a old reply new
  refused : (number span : ℕ) → a ≡ refused_answer (number, span)
      → reply ≡ without_text 1 number span → new ≡ old → Replies a old reply new
  bad : (place : InputPlace) → a ≡ bad_input place → reply ≡ bad_reply place → new ≡ old
      → Replies a old reply new
  failed : reply ≡ without_text 3 0 0 → new ≡ old → Replies a old reply new

-- the reply for a text in which these links lead nowhere: status 5 instead of 0, and the span of
-- the first
abbrev pub with_dead_links : List DeadLinkView → Reply → Reply
with_dead_links [] reply = reply
with_dead_links (link ∷ links) reply =
    if reply.status == 0 then record reply { status = 5; span = link.0 } else reply

-- the call replies with the answer, and reports that these links lead nowhere
abbrev pub RepliesWith : List DeadLinkView → Answer → (old : List ℕ) (reply : Reply) (new : List ℕ)
    → Type 0
RepliesWith links answer old reply new =
    (plain : Reply) × Replies answer old plain new × (reply ≡ with_dead_links links plain)
