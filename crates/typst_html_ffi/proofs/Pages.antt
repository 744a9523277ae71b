-- What is found in a page has a text, and what is answered where a page is read, and where it is not.
use Rattle.std.proofs.Common.{◌≡◌, ◌∙◌, sym, ap, ℕ, List, [], ◌∷◌, ◌++◌, Bool, true, false, Ok, Err, String, string_bytes, refl, append_assoc}
use Rattle.std.proofs.lemmas.Str.{encodes-chars, IsUtf8-string_bytes}
use Rattle.std.specs.declared.alloc.Global.{Global}
use lib.Utf8.{encodes}
use Rattle.serde_json.specs.{Data.{Data, string, object, Members, member}, View.{items_of}}
use Rattle.serde_json.specs.Written.{comma_if, compact_text, items_text, members_text}
use Rattle.html_dom_tree.specs.{Tree.{ElementView}, Views.{element_view, text_view}, declared.node.HtmlElement.{HtmlElement}}
use Rattle.html_page_encoding.specs.{PageEncodings.{page_text}, declared.encoding.Encoding.{Encoding}}
use Rattle.html_page_read.specs.{PageAnswers.{IsFault, IsNoText, IsPage}, PageReading.{page_read}, declared.fault.PageFault.{PageFault}, declared.fault.PageNotes.{PageNotes}}
use Rattle.html_page_read.specs.declared.fault.PageFault.TheVariants.{OutOfMemory, UnknownLabel, NotText, Refused}
use Rattle.typst_html_ffi.specs.{PageReports.{Report, Reports, unread, failed, page_report}, PageSteps.{IsFaultReport, unread_reply}}
use Rattle.typst_html_ffi.specs.declared.reply.Reply.{Reply}

pub text_written : (s : String Global) → encodes (text_view s) ≡ string_bytes s
text_written s = encodes-chars (string_bytes s) (IsUtf8-string_bytes s)

-- the text of an object, one member after the other
pub no_member_yet : (ms : Members) (old a : List ℕ) → a ≡ old ++ 123 ∷ [] →
    a ++ members_text false ms ≡ old ++ compact_text (object ms)
no_member_yet ms old a begun = rw (begun, append_assoc) refl

pub one_more_member : (later : Bool) (name : List ℕ) (d : Data) (ms : Members) (all a b c : List ℕ) →
    a ++ members_text later (member name d ms) ≡ all →
    b ≡ a ++ (comma_if later ++ (compact_text (string name) ++ 58 ∷ [])) →
    c ≡ b ++ compact_text d → c ++ members_text true ms ≡ all
one_more_member later name d ms all a b c before p q =
    rw (q, p) (simp append_assoc) ∙ before

-- one more item of a list
pub one_more_item : (later : Bool) (d : Data) (ds : List Data) (all a b c : List ℕ) →
    a ++ items_text later (items_of (d ∷ ds)) ≡ all → b ≡ a ++ comma_if later →
    c ≡ b ++ compact_text d → c ++ items_text true (items_of ds) ≡ all
one_more_item later d ds all a b c before p q = rw (q, p, append_assoc, append_assoc) before

-- what is reported of a page
module _ (data_of : (text : List ℕ) → ElementView → Data) (limit : ℕ) (page : List ℕ) where
  -- one that is read
  pub read_reported : (e : Encoding) (text : List ℕ) (root : HtmlElement) (notes : PageNotes) →
      page_text page ≡ Ok (e, text) → IsPage text (page_read limit text) root notes →
      page_report data_of page limit ≡ Ok (compact_text (data_of text (element_view root)))
  unfolding page_report
  read_reported e text root notes p is = rw (p, is.read) refl

  -- one that has no text
  pub no_text_reported : (f : PageFault) → IsNoText page (page_text page) f →
      IsFaultReport (page_report data_of page limit) f
  unfolding page_report
  no_text_reported OutOfMemory found = tt
  no_text_reported (UnknownLabel label place) found = rw (found.1, found.2) refl
  no_text_reported (NotText place) found = rw (found.1, found.2) refl
  no_text_reported (Refused refusal place) found = absurd found

  -- one whose text is refused
  pub refusal_reported : (e : Encoding) (text : List ℕ) (f : PageFault) → page_text page ≡ Ok (e, text)
      → IsFault text (page_read limit text) f → IsFaultReport (page_report data_of page limit) f
  unfolding page_report
  refusal_reported e text OutOfMemory p found = tt
  refusal_reported e text (UnknownLabel label place) p found = absurd found
  refusal_reported e text (NotText place) p found = absurd found
  refusal_reported e text (Refused refusal place) p found = rw (p, found.1, found.2) refl

-- the reply to a fault reports it
pub fault_replied : (report : Report) (old : List ℕ) (reply : Reply) (new : List ℕ) (f : PageFault)
    → IsFaultReport report f → reply ≡ unread_reply f → new ≡ old → Reports report old reply new
fault_replied report old reply new OutOfMemory is r kept = failed r kept
fault_replied report old reply new (UnknownLabel label place) is r kept =
    unread (is ∙ ap Err (sym r)) kept
fault_replied report old reply new (NotText place) is r kept = unread (is ∙ ap Err (sym r)) kept
fault_replied report old reply new (Refused refusal place) is r kept = unread (is ∙ ap Err (sym r)) kept
