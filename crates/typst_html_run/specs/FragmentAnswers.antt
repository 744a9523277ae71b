-- The answer to an input that spells items without a document.
use Rattle.std.specs.Prelude.{ℕ, List, ◌++◌, map}
use Rattle.html_flow_convert.specs.{Items.{ItemsView}, declared.convert.ConversionLevel.{ConversionLevel}}
use Rattle.typst_html_encode.specs.FrameWriters.{no_frames}
use Rattle.typst_html_export.specs.Fragments.{export_fragment_faults, export_fragment_text}
use Rattle.typst_html_run.specs.Answers.{Answer, answer_if, answer_to, fault_refusal, first_refusal_or_text}
use Rattle.typst_html_json.specs.{Json.{json_of}, JsonPlaces.{input_place}, NameRefusals.{Refusal, items_refusals}}
use Rattle.typst_html_json.specs.SpelledItems.{spelled_document_items}

abbrev pub fragment_text : ConversionLevel → ItemsView → List ℕ
fragment_text level items = export_fragment_text no_frames level items

abbrev pub fragment_refusals : ConversionLevel → (limit : ℕ) → ItemsView → List Refusal
fragment_refusals level limit items =
    map fault_refusal (export_fragment_faults limit no_frames level items)

-- the answer to the items; names are refused before other faults
unfoldable pub fragment_answer : ConversionLevel → (limit : ℕ) → ItemsView → Answer
fragment_answer level limit items = first_refusal_or_text
    (items_refusals items ++ fragment_refusals level limit items) (fragment_text level items)

unfoldable pub fragment_input_answer : ConversionLevel → (limit : ℕ) (input : List ℕ) → Answer
fragment_input_answer level limit input = answer_if (input_place input)
    (λ d. answer_to (fragment_answer level limit) (spelled_document_items d)) (json_of input)
