-- What a call reports of a page, and its reply.
use Rattle.std.specs.Prelude.{◌≡◌, ℕ, List, Option, Some, None, Result, Ok, Err}
use Rattle.serde_json.specs.{Data.{Data}, Written.{compact_text}}
use Rattle.html_dom_tree.specs.Tree.{ElementView}
use Rattle.html_page_encoding.specs.PageEncodings.{FaultView, NotText, UnknownLabel, page_text}
use Rattle.html_page_encoding.specs.declared.encoding.Encoding.{Encoding}
use Rattle.html_page_read.specs.{BytePlaces.{label_place, no_text_place}, PagePlaces.{place_at}, PageReading.{PageResult, page_read}}
use Rattle.html_page_stack.specs.{PageRefusals.{refusal_number}, Pages.{Notes}}
use Rattle.html_text.specs.declared.place.Place.{Place}
use Rattle.typst_html_ffi.specs.{CallReplies.{buffer_with, page_limit_of, text_reply, without_text}, declared.reply.Reply.{Reply}}

-- the reply of a call that has no text because of a fault at that place of a page
abbrev pub placed : (status n : ℕ) → Place → Reply
placed status n place = record {
  length = 0;
  span = place.offset;
  line = place.line;
  column = place.column;
  status = status;
  number = n;
}

-- the report on a page: a text, or the reply of a call that has none
abbrev pub Report : Type 0
Report = Result (List ℕ) Reply

-- given the data that a call reports of a page with that text and that element
module _ (data_of : (text : List ℕ) → ElementView → Data) where
  -- the report on a page that was read with that result: the data, or the number of the refusal and
  -- its place
  abbrev pub report_of : (text : List ℕ) → PageResult → Report
  report_of text (Ok read) = Ok (compact_text (data_of text read.0))
  report_of text (Err refused) = Err (placed 1 (refusal_number refused.0) (place_at text refused.1))

  -- the report on a page with that text in its encoding; 25 is the number of an unknown label
  abbrev pub report_in : (page : List ℕ) → (limit : ℕ) →
      (decoded : Result (Encoding × List ℕ) FaultView) → Report
  report_in page limit (Ok decoded) = report_of decoded.1 (page_read limit decoded.1)
  report_in page limit (Err (UnknownLabel label n)) = Err (placed 1 25 (label_place page n))
  report_in page limit (Err (NotText n)) = Err (placed 2 0 (no_text_place page n))

  -- the report on the bytes of a page
  unfoldable pub page_report : (page : List ℕ) → (limit : ℕ) → Report
  page_report page limit = report_in page limit (page_text page)

  abbrev pub report_within : (page : List ℕ) → (limit : Option ℕ) → Report
  report_within page None = Err (without_text 2 0 0)
  report_within page (Some limit) = page_report page limit

  abbrev pub report_by : (limit : ℕ) (page : List ℕ) → Report
  report_by limit page = report_within page (page_limit_of limit)

-- the call returns the reply for the report and writes its text, or an allocation failed and the
-- buffer is unchanged
pub data Reports (report : Report) (old : List ℕ) (reply : Reply) (new : List ℕ) : Type 0 where
  made : (bytes : List ℕ) → report ≡ Ok bytes → reply ≡ text_reply bytes old →
      new ≡ buffer_with bytes old → Reports report old reply new
  unread : report ≡ Err reply → new ≡ old → Reports report old reply new
  failed : reply ≡ without_text 3 0 0 → new ≡ old → Reports report old reply new
