-- The answer to an input that spells a document: the information that its text does not show; bad
-- input if the limit is invalid.
use Rattle.std.specs.Prelude.{ℕ, List}
use Rattle.typst_html_run.specs.{Answers.{Answer, answer_if}, UnusedInformation.{unused_input_answer}}
use Rattle.typst_html_json.specs.declared.fault.InputPlace.TheVariants.{Unknown}
use Rattle.typst_html_ffi.specs.CallReplies.{limit_of}

abbrev pub unused_call_answer : (limit : ℕ) (input : List ℕ) → Answer
unused_call_answer limit input =
    answer_if Unknown (λ most. unused_input_answer most input) (limit_of limit)
