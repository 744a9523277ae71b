-- The answer to an input that spells items without a document; bad input if the level or the limit
-- is invalid.
use Rattle.std.specs.Prelude.{◌==◌, ℕ, List, Option, Some, None, option_and_then, option_map, if◌then◌else◌}
use Rattle.html_flow_convert.specs.declared.convert.{ConversionLevel.{ConversionLevel}, ConversionLevel.TheVariants.{Block, Inline}}
use Rattle.typst_html_run.specs.{Answers.{Answer, answer_if}, FragmentAnswers.{fragment_input_answer}}
use Rattle.typst_html_json.specs.declared.fault.InputPlace.TheVariants.{Unknown}
use Rattle.typst_html_ffi.specs.CallReplies.{limit_of}

-- the level of that number: 0 is the level of blocks, and 1 that of a line
abbrev pub level_of : (level : ℕ) → Option ConversionLevel
level_of level = if level == 0 then Some Block else (if level == 1 then Some Inline else None)

-- how the text is made, if both numbers are valid
abbrev pub wanted_fragment : (level limit : ℕ) → Option (ConversionLevel × ℕ)
wanted_fragment level limit =
    option_and_then (λ here. option_map (λ most. (here, most)) (limit_of limit)) (level_of level)

abbrev pub fragment_call_answer : (level limit : ℕ) (input : List ℕ) → Answer
fragment_call_answer level limit input =
    answer_if Unknown (λ how. fragment_input_answer how.0 how.1 input) (wanted_fragment level limit)
