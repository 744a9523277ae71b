-- The output of a run, and what the run does to its reader and its writer.
use Rattle.std.specs.{Fmt.{decimal}, Prelude.{◌≡◌, ℕ, List, ◌++◌, Option, Some, None, IfSome, ◌⊎◌, codes, Bool}}
use Rattle.std.specs.Io.KnownBytes.{Appends, Keeps}
use Rattle.typst_html_json.specs.{Json.{json_of}, NameRefusals.{Refusal}}
use Rattle.typst_html_run.specs.{Answers.{Answer, text_answer, refused_answer, bad_input, value_answer}, Words.{wanted_task}}
use Rattle.typst_html_run.specs.{Writing.{AppendsBeginning}, declared.recorded.LastCall.{LastCall}}
use Rattle.typst_html_run.specs.declared.recorded.LastCall.TheVariants as last_call
use Rattle.typst_html_run.specs.declared.status.{Status.{Status}, Status.TheVariants.{Done, Refused, BadInput, Failed}}
use Rattle.typst_html_run.specs.declared.words.Task.{Task}

-- a status and the bytes that are written
pub record Output : Type 0 where
  pub status : Status
  pub bytes : List ℕ

abbrev pub refusal_line : Refusal → List ℕ
refusal_line r = codes "refused: " ++ (decimal r.0 ++ (codes " at " ++ (decimal r.1 ++ codes "\n")))

abbrev pub bad_input_line : List ℕ
bad_input_line = codes "bad input\n"

abbrev pub bad_input_output : Output
bad_input_output = record { status = BadInput; bytes = bad_input_line }

-- what the program writes for an answer: of bad input not the place
abbrev pub output_of : Answer → Output
output_of (text_answer bytes) = record { status = Done; bytes = bytes }
output_of (refused_answer r) = record { status = Refused; bytes = refusal_line r }
output_of (bad_input place) = bad_input_output

-- the output for a part that may be missing, which is bad input then
abbrev pub output_if : {A : Type 0} → (output : A → Output) → Option A → Output
output_if output None = bad_input_output
output_if output (Some a) = output a

-- the output for an input that is to be that task's
unfoldable pub input_output : Task → (pretty : Bool) (input : List ℕ) → Output
input_output task pretty input =
    output_if (λ d. output_of (value_answer task pretty d)) (json_of input)

-- the output for these words and this input
abbrev pub words_output : (words : List (List ℕ)) (input : List ℕ) → Output
words_output words input =
    output_if (λ wanted. input_output wanted.0 wanted.1 input) (wanted_task words)

-- how a run with this output ends: with its status, after all of its bytes were written and
-- flushed; or with a failure, and then nothing was written, unless the last call on the writer
-- failed after a beginning of the bytes
abbrev pub EndsAs : Output → Status → (old new : Option (List ℕ)) → LastCall → Type 0
EndsAs output status old new last =
    ((status ≡ output.status) × Appends old new output.bytes × (last ≡ last_call.Flushed))
    ⊎ ((status ≡ Failed) × (Keeps old new ⊎
    ((last ≡ last_call.Failed) × AppendsBeginning old new output.bytes)))

-- how a run with this output ends, for some outcome of the last call, if nothing records that
-- outcome
abbrev pub RunsAs : Output → Status → (old new : Option (List ℕ)) → Type 0
RunsAs output status old new = (last : LastCall) × EndsAs output status old new last

-- the input is all that the reader has left, if that is known
abbrev pub IsAll : (input : List ℕ) (remaining : Option (List ℕ)) → Type 0
IsAll input remaining = IfSome remaining (λ bytes. input ≡ bytes)

-- the run ends with the output for some input, which is all that the reader has
abbrev pub EndsOn : (words : List (List ℕ)) (remaining : Option (List ℕ)) → Status
    → (old new : Option (List ℕ)) → LastCall → Type 0
EndsOn words remaining status old new last = (input : List ℕ) × IsAll input remaining
    × EndsAs (words_output words input) status old new last

abbrev pub RunsOn : (words : List (List ℕ)) (remaining : Option (List ℕ)) → Status
    → (old new : Option (List ℕ)) → Type 0
RunsOn words remaining status old new =
    (last : LastCall) × EndsOn words remaining status old new last
