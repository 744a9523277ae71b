-- What a run writes for an answer.
use Rattle.std.proofs.Common.{◌≡◌, ℕ, List, Bool, Option, Some, None, Result, Ok, Err, String, inl, inr, refl, sym, ap, subst, ◌∙◌}
use Rattle.std.specs.{Io.KnownBytes.{Appends}, declared.alloc.Global.{Global}}
use Rattle.typst_html_run.specs.Answers.{Answer, text_answer, refused_answer, bad_input, answer_if, input_answer, value_answer}
use Rattle.typst_html_run.specs.Outputs.{Output, EndsAs, bad_input_line, output_of, output_if, input_output, words_output}
use Rattle.typst_html_run.specs.{Replies.{GivesAnswer, GivesOutput}, Words.{wanted_task}, declared.recorded.LastCall.{LastCall}}
use Rattle.typst_html_run.specs.declared.status.Status.{Status}
use Rattle.typst_html_run.specs.declared.status.Status.TheVariants as status
use Rattle.typst_html_run.specs.declared.words.Task.{Task}
use Rattle.typst_html_json.specs.{Json.{json_of}, JsonPlaces.{input_place}}
use Rattle.typst_html_json.specs.declared.fault.{Fault.{Fault}, InputPlace.{InputPlace}, Fault.TheVariants.{OutOfMemory, BadInput, Refused}}

-- a result that agrees with an answer agrees with its output
output_given : (r : Result (String Global) Fault) (a : Answer) (o : Output)
    → GivesAnswer r a → output_of a ≡ o → GivesOutput r o
output_given (Ok text) a o given is = sym is ∙ ap output_of given
output_given (Err OutOfMemory) a o given is = tt
output_given (Err (BadInput place)) a o given is = sym is ∙ ap output_of given
output_given (Err (Refused number span)) a o given is = sym is ∙ ap output_of given

-- the output for a part that may be missing says nothing of the place
without_place : {A : Type 0} (place : InputPlace) (answer : A → Answer) (part : Option A)
    → output_of (answer_if place answer part) ≡ output_if (λ a. output_of (answer a)) part
without_place place answer None = refl
without_place place answer (Some a) = refl

-- a result that agrees with the answer to an input agrees with the output for words of that task
pub answered : (words : List (List ℕ)) (task : Task) (pretty : Bool) (input : List ℕ)
    (r : Result (String Global) Fault) → wanted_task words ≡ Some (task, pretty)
    → GivesAnswer r (input_answer task pretty input) → GivesOutput r (words_output words input)
unfolding input_answer input_output
answered words task pretty input r wanted given =
    rw wanted (output_given r _ _ given
    (without_place (input_place input) (value_answer task pretty) (json_of input)))

pub not_failed : status.Failed ≡ status.BadInput → ⊥
not_failed is = cc

not_done : status.Done ≡ status.BadInput → ⊥
not_done is = cc

not_refused : status.Refused ≡ status.BadInput → ⊥
not_refused is = cc

-- the status of bad input stands beside its line alone
abbrev HasLine : Output → Type 0
HasLine o = o.status ≡ status.BadInput → o.bytes ≡ bad_input_line

answer_has_line : (a : Answer) → HasLine (output_of a)
answer_has_line (text_answer bytes) is = absurd (not_done is)
answer_has_line (refused_answer r) is = absurd (not_refused is)
answer_has_line (bad_input place) is = refl

part_has_line : {A : Type 0} (output : A → Output) → ((a : A) → HasLine (output a))
    → (part : Option A) → HasLine (output_if output part)
part_has_line output each None is = refl
part_has_line output each (Some a) is = each a is

words_have_line : (words : List (List ℕ)) (input : List ℕ) → HasLine (words_output words input)
unfolding input_output
words_have_line words input =
    part_has_line (λ (w : Task × Bool). input_output w.0 w.1 input)
    (λ w. part_has_line (λ d. output_of (value_answer w.0 w.1 d))
    (λ d. answer_has_line (value_answer w.0 w.1 d)) (json_of input)) (wanted_task words)

-- a run that ends with bad input has written just its line
pub bad_input_written : (words : List (List ℕ)) (input : List ℕ) (s : Status)
    (old new : Option (List ℕ)) (last : LastCall) → EndsAs (words_output words input) s old new last
    → s ≡ status.BadInput → Appends old new bad_input_line
bad_input_written words input s old new last (inl h) is =
    subst (Appends old new) (words_have_line words input (sym h.0 ∙ is)) h.1
bad_input_written words input s old new last (inr h) is = absurd (not_failed (sym h.0 ∙ is))
