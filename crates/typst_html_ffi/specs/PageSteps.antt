-- The results of the steps that make the report on a page.
use Rattle.std.specs.{Prelude.{◌≡◌, ℕ, List, ◌++◌, Result, Err, Ok, MatchResult, String, string_bytes, Vec}, declared.alloc.Global.{Global}}
use Rattle.serde_json.specs.{Data.{Data}, View.{items_of}, Written.{items_text}}
use Rattle.html_page_findings.specs.PlacedTexts.{Placed}
use Rattle.html_page_nesting.specs.Misnested.{Finding}
use Rattle.html_dom_tree.specs.{Tree.{ElementView}, Views.{element_view}}
use Rattle.html_page_read.specs.{PlaceViews.{text_of}, declared.fault.PageFault.{PageFault}}
use Rattle.html_page_read.specs.declared.fault.PageFault.TheVariants.{OutOfMemory, UnknownLabel, NotText, Refused}
use Rattle.html_page_stack.specs.PageRefusals.{refusal_number}
use Rattle.html_text.specs.declared.place.Place.{Place}
use Rattle.typst_html_ffi.specs.{CallReplies.{without_text}, FindingLists.{element_place, findings_behind}}
use Rattle.typst_html_ffi.specs.{LongTexts.{pieces_bytes, text_bytes}, MisnestedNodes.{misnested_behind}, PageFindings.{page_findings}}
use Rattle.typst_html_ffi.specs.{PageLinks.{page_links}, PageReports.{Report, placed}, declared.lists.FindingList.{FindingList}}
use Rattle.typst_html_ffi.specs.declared.{misnested.NodeList.{NodeList}, page.Page.{Page}, reply.Reply.{Reply}, report.Asked.{Asked}}
use Rattle.typst_html_ffi.specs.declared.report.Asked.TheVariants as asked

-- the place of the element at a path
abbrev pub place_in : Page → (path : List ℕ) → Place
place_in page = element_place (text_of page.places) (element_view page.root.now)

-- the text with the whole list that is being written, if these findings are added to it
abbrev pub text_with : FindingList → List Placed → List ℕ
text_with list ps = string_bytes list.text ++ items_text list.later (items_of
    (findings_behind (place_in list.page) (string_bytes list.name) list.previous.items ps))

-- the text with the whole list of misnested nodes that is being written, if these are added to it
abbrev pub text_with_nodes : NodeList → List Finding → List ℕ
text_with_nodes list fs = text_bytes list.text ++ items_text list.later (items_of
    (misnested_behind (text_of list.places) list.previous.items fs))

-- the data that a call is asked for
abbrev pub asked_data : Asked → (text : List ℕ) → ElementView → Data
asked_data asked.Findings = page_findings
asked_data asked.Links = page_links

-- the reply for a page that is not read
abbrev pub unread_reply : PageFault → Reply
unread_reply OutOfMemory = without_text 3 0 0
unread_reply (UnknownLabel label place) = placed 1 25 place
unread_reply (NotText place) = placed 2 0 place
unread_reply (Refused refusal place) = placed 1 (refusal_number refusal) place

-- the fault is the report, unless an allocation failed
abbrev pub IsFaultReport : Report → PageFault → Type 0
IsFaultReport report OutOfMemory = Unit {0}
IsFaultReport report other = report ≡ Err (unread_reply other)

-- the pieces are the whole report, or the fault is the report
abbrev pub GivesReport : Result (Vec (String Global) Global) PageFault → Report → Type 0
GivesReport r report =
    MatchResult r (λ pieces. report ≡ Ok (pieces_bytes pieces.items)) (IsFaultReport report)
