-- The answer to an input.
use Rattle.std.specs.Prelude.{ℕ, List, [], ◌∷◌, ◌++◌, map, Option, Some, None, Ok, Err, Bool}
use lib.Utf8.{encodes}
use Rattle.serde_json.specs.Data.{Data}
use Rattle.html_names_core.specs.NameFaults as name
use Rattle.html_values_css.specs.CastFaults as cast
use Rattle.html_flow_faults.specs.ConstructFaults as construct
use Rattle.html_flow_faults.specs.ConstructFaults.{ConstructFaultView}
use Rattle.html_dom_tree.specs.Tree.{ElementView}
use Rattle.html_dom_document.specs.Documents.{no_info}
use Rattle.typst_html_encode.specs.FaultViews.{ExportFaultView, out_of_memory, too_deep, not_alone, footnotes, unencodable, void_children, raw_child, raw_closing, frame_refused, name_fault, cast_fault, construct_fault}
use Rattle.typst_html_encode.specs.{FrameWriters.{no_frames}, Text.{document_text}, declared.options.HtmlOptions.{HtmlOptions}}
use Rattle.html_flow_convert.specs.Items.{ItemsView, no_items}
use Rattle.typst_html_export.specs.Exported.{root_faults, export_faults, export_text}
use Rattle.typst_html_json.specs.{Json.{json_of}, JsonPlaces.{input_place}, LeftForms.{Left}}
use Rattle.typst_html_json.specs.{NameRefusals.{Refusal, element_refusals, items_refusals}, Spelled.{spelled_element}}
use Rattle.typst_html_json.specs.{SpelledItems.{spelled_items}, declared.fault.InputPlace.{InputPlace}}
use Rattle.typst_html_json.specs.declared.fault.InputPlace.TheVariants.{Form}
use Rattle.typst_html_run.specs.declared.status.{Status.{Status}, Status.TheVariants.{Done, Refused, BadInput, Failed}}
use Rattle.typst_html_run.specs.declared.words.{Task.{Task}, Task.TheVariants.{Tree, Doc}}

abbrev pub code_of : Status → ℕ
code_of Done = 0
code_of Refused = 1
code_of BadInput = 2
code_of Failed = 3

-- what an input is answered: the bytes of a text, a refusal, or bad input at a place
pub data Answer : Type 0 where
  text_answer : (bytes : List ℕ) → Answer
  refused_answer : Refusal → Answer
  bad_input : InputPlace → Answer

-- the first of the spans, or 0 if there is none
abbrev pub first_span : List ℕ → ℕ
first_span [] = 0
first_span (span ∷ spans) = span

-- the number and the span of a fault of a constructor
abbrev pub construct_refusal : ConstructFaultView → Refusal
construct_refusal construct.out_of_memory = (0, 0)
construct_refusal (construct.cast_faults []) = (0, 0)
construct_refusal (construct.cast_faults (f ∷ fs)) = (cast.number_of f.0, f.1)
construct_refusal (construct.body_kind span) = (24, span)

-- the number and the span of a fault of a tree or of items, or of a call that makes them
abbrev pub fault_refusal : ExportFaultView → Refusal
fault_refusal out_of_memory = (0, 0)
fault_refusal (too_deep span) = (8, span)
fault_refusal (not_alone name span) = (9, span)
fault_refusal (footnotes spans) = (10, first_span spans)
fault_refusal (unencodable c span) = (11, span)
fault_refusal (void_children span) = (12, span)
fault_refusal (raw_child span) = (13, span)
fault_refusal (raw_closing span) = (14, span)
fault_refusal (frame_refused span) = (15, span)
fault_refusal (name_fault fault) = (name.number_of fault, 0)
fault_refusal (cast_fault fault) = (cast.number_of fault, 0)
fault_refusal (construct_fault fault) = construct_refusal fault

-- the answer with the first refusal, or with the text if there is none
abbrev pub first_refusal_or_text : List Refusal → (text : List ℕ) → Answer
first_refusal_or_text [] text = text_answer (encodes text)
first_refusal_or_text (r ∷ rs) text = refused_answer r

abbrev pub options_of : (pretty : Bool) → HtmlOptions
options_of pretty = record { pretty = pretty }

-- the text of a tree, and what is wrong with the tree
abbrev pub tree_text : (pretty : Bool) → ElementView → List ℕ
tree_text pretty e = document_text no_frames (options_of pretty) e

abbrev pub tree_refusals : (pretty : Bool) → ElementView → List Refusal
tree_refusals pretty e = map fault_refusal (root_faults no_frames (options_of pretty) e)

-- how deep the bodies of items may be nested
abbrev pub depth_limit : ℕ
depth_limit = 50

-- the text of items without footnotes and without information about their document, and what is
-- wrong with them
abbrev pub doc_text : (pretty : Bool) → ItemsView → List ℕ
doc_text pretty items = export_text no_frames (options_of pretty) no_info items no_items

abbrev pub doc_refusals : (pretty : Bool) → ItemsView → List Refusal
doc_refusals pretty items = map fault_refusal
    (export_faults depth_limit no_frames (options_of pretty) no_info items no_items)

-- the answers to a tree and to items: names are refused before other faults
unfoldable pub tree_answer : (pretty : Bool) → ElementView → Answer
tree_answer pretty e =
    first_refusal_or_text (element_refusals e ++ tree_refusals pretty e) (tree_text pretty e)

unfoldable pub doc_answer : (pretty : Bool) → ItemsView → Answer
doc_answer pretty items =
    first_refusal_or_text (items_refusals items ++ doc_refusals pretty items) (doc_text pretty items)

-- the answer to what an input spells, or bad input at the place where it leaves the form
abbrev pub answer_to : {A : Type 0} → (answer : A → Answer) → Left A → Answer
answer_to answer (Ok a) = answer a
answer_to answer (Err n) = bad_input (Form n)

abbrev pub value_answer : Task → (pretty : Bool) → Data → Answer
value_answer Tree pretty d = answer_to (tree_answer pretty) (spelled_element d)
value_answer Doc pretty d = answer_to (doc_answer pretty) (spelled_items d)

-- the answer to a value, or bad input at that place if there is none
abbrev pub answer_if : {A : Type 0} → InputPlace → (answer : A → Answer) → Option A → Answer
answer_if place answer None = bad_input place
answer_if place answer (Some a) = answer a

unfoldable pub input_answer : Task → (pretty : Bool) (input : List ℕ) → Answer
input_answer task pretty input =
    answer_if (input_place input) (value_answer task pretty) (json_of input)

abbrev pub task_answer : (input : List ℕ) → Task × Bool → Answer
task_answer input wanted = input_answer wanted.0 wanted.1 input
