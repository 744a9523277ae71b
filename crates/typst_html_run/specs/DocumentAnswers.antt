-- The answer to an input that spells a document.
use Rattle.std.specs.Prelude.{ℕ, Bool, List, [], ◌++◌, map, Option, Some, None, option_map, Result, Ok, Err, String, if◌then◌else◌}
use Rattle.std.specs.declared.alloc.Global.{Global}
use Rattle.html_dom_document.specs.Documents.{DocumentView, document_root}
use Rattle.html_anchors.specs.{FoundAnchors.{document_dead_links}, Links.{DeadLinkView, document_with_links}}
use Rattle.html_dom_tree.specs.Tree.{ElementView}
use Rattle.html_flow_convert.specs.LoneNode.{node_list}
use Rattle.typst_html_encode.specs.{FaultViews.{ExportFaultView}, FrameWriters.{no_frames}}
use Rattle.typst_html_encode.specs.Text as html
use Rattle.typst_html_export.specs.{Assembled.{items_document_faults}, Exported.{root_faults}, Linked.{linked_document_with_head}}
use Rattle.typst_html_run.specs.Answers.{Answer, answer_if, answer_to, fault_refusal, first_refusal_or_text, options_of}
use Rattle.typst_html_run.specs.declared.documents.{DocumentText.{DocumentText}, Settings.{Settings}}
use Rattle.typst_html_json.specs.{Json.{json_of}, JsonPlaces.{input_place}, LeftForms.{Left}, NameRefusals.{Refusal}}
use Rattle.typst_html_json.specs.SpelledDocuments.{Spelling, names_refusals, spelled_document}

-- the document that is made of what an input spells
abbrev pub made_document : Spelling → DocumentView
made_document s = linked_document_with_head s.info (node_list s.head) s.items s.footnotes

-- the document that is written: with its links resolved, if they are wanted
abbrev pub written_document : (links : Bool) → DocumentView → DocumentView
written_document links d = if links then document_with_links d else d

abbrev pub written_root : Settings → Spelling → ElementView
written_root w s = document_root (written_document w.links (made_document s))

-- the text of a document
abbrev pub spelling_text : Settings → Spelling → List ℕ
spelling_text w s = html.document_text no_frames (options_of w.pretty) (written_root w s)

-- what is wrong with a document: first the faults of making it, and then those of its tree
abbrev pub spelling_faults : Settings → Spelling → List ExportFaultView
spelling_faults w s = items_document_faults w.limit s.items s.footnotes
    ++ root_faults no_frames (options_of w.pretty) (written_root w s)

abbrev pub document_refusals : Settings → Spelling → List Refusal
document_refusals w s = map fault_refusal (spelling_faults w s)

-- the answer to what an input spells; names are refused before other faults
unfoldable pub document_answer : Settings → Spelling → Answer
document_answer w s =
    first_refusal_or_text (names_refusals s ++ document_refusals w s) (spelling_text w s)

unfoldable pub document_input_answer : Settings → (input : List ℕ) → Answer
document_input_answer w input = answer_if (input_place input)
    (λ d. answer_to (document_answer w) (spelled_document d)) (json_of input)

-- the links of a document that lead nowhere, if links are wanted, and otherwise none
abbrev pub dead_links : Settings → Spelling → List DeadLinkView
dead_links w s = if w.links then document_dead_links (made_document s) else []

-- the dead links of the document that an input spells, if it spells one
abbrev pub dead_links_in : Settings → Option (Left Spelling) → List DeadLinkView
dead_links_in w None = []
dead_links_in w (Some (Err n)) = []
dead_links_in w (Some (Ok s)) = dead_links w s

unfoldable pub input_dead_links : Settings → (input : List ℕ) → List DeadLinkView
input_dead_links w input = dead_links_in w (option_map spelled_document (json_of input))

-- the text of a result, without its dead links
abbrev pub text_given : {E : Type 0} → Result DocumentText E → Result (String Global) E
text_given (Ok made) = Ok made.text
text_given (Err e) = Err e
