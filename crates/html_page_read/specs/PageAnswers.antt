-- The results of reading a page: the element and the errors of the definition, or its refusal. An
-- allocation may fail before either.
use Rattle.std.specs.Prelude.{◌≡◌, ℕ, List, map, Result, Ok, Err, IfOk, IfErr}
use Rattle.html_dom_tree.specs.{Views.{element_view}, declared.node.HtmlElement.{HtmlElement}}
use Rattle.html_names_core.specs.Texts.{text_view}
use Rattle.html_page_encoding.specs.PageEncodings.{FaultView, NotText, UnknownLabel, page_text}
use Rattle.html_page_encoding.specs.declared.{encoding.Encoding.{Encoding}, page.DecodedPage.{DecodedPage}}
use Rattle.html_page_encoding.specs.declared.encoding.Encoding.TheVariants.{Utf8}
use Rattle.html_page_stack.specs.Pages as pages
use Rattle.html_page_stack.specs.{declared.error.PageError.{PageError}, declared.fault.PageRefusal.{PageRefusal}}
use Rattle.html_page_read.specs.BytePlaces.{label_place, no_text_place}
use Rattle.html_page_read.specs.{PagePlaces.{place_at}, PageReading.{PageResult, page_read}}
use Rattle.html_page_read.specs.declared.fault.PageFault.{PageFault}
use Rattle.html_page_read.specs.declared.fault.PageFault.TheVariants as fault
use Rattle.html_page_read.specs.declared.{fault.PageNote.{PageNote}, fault.PageNotes.{PageNotes}}

-- an error, with its place in the text
abbrev pub placed : (text : List ℕ) → PageError × ℕ → PageNote
placed text n = record { error = n.0; place = place_at text n.1 }

abbrev pub ArePlaced : (text : List ℕ) → pages.Notes → PageNotes → Type 0
ArePlaced text notes reported =
    (reported.count ≡ notes.count) × (reported.first.items ≡ map (placed text) notes.first)

-- the fault is the expected refusal, with its place in the text
abbrev pub IsFault : (text : List ℕ) → PageResult → PageFault → Type 0
IsFault text expected fault.OutOfMemory = Unit {0}
IsFault text expected (fault.UnknownLabel label place) = ⊥
IsFault text expected (fault.NotText place) = ⊥
IsFault text expected (fault.Refused refusal place) =
    (n : ℕ) × (expected ≡ Err (refusal, n)) × (place ≡ place_at text n)

-- the fault of a refusal, with its place in the text
abbrev pub fault_at : (text : List ℕ) → PageRefusal × ℕ → PageFault
fault_at text refused = fault.Refused refused.0 (place_at text refused.1)

-- the element and the reported errors are those of the text
pub record IsPage (text : List ℕ) (expected : PageResult) (e : HtmlElement)
    (reported : PageNotes) : Type 0 where
  pub notes : pages.Notes
  pub read : expected ≡ Ok (element_view e, notes)
  pub placed : ArePlaced text notes reported

-- a call reads a page as expected, or fails with the expected fault
pub record Gives (r : Result (HtmlElement × PageNotes) PageFault) (text : List ℕ)
    (expected : PageResult) : Type 0 where
  pub made : IfOk r (λ read. IsPage text expected read.0 read.1)
  pub encoding : IfOk r (λ read. read.1.encoding ≡ Utf8)
  pub fault : IfErr r (IsFault text expected)

-- the fault is that of the bytes of the page, with its place
abbrev pub IsNoText : (page : List ℕ) → Result (Encoding × List ℕ) FaultView → PageFault → Type 0
IsNoText page expected fault.OutOfMemory = Unit {0}
IsNoText page expected (fault.UnknownLabel label place) =
    (n : ℕ) × (expected ≡ Err (UnknownLabel (text_view label) n)) × (place ≡ label_place page n)
IsNoText page expected (fault.NotText place) =
    (n : ℕ) × (expected ≡ Err (NotText n)) × (place ≡ no_text_place page n)
IsNoText page expected (fault.Refused refusal place) = ⊥

-- a call decodes a page
pub record GivesText (r : Result DecodedPage PageFault) (page : List ℕ) : Type 0 where
  pub made : IfOk r (λ decoded. page_text page ≡ Ok (decoded.encoding, text_view decoded.text))
  pub fault : IfErr r (IsNoText page (page_text page))

-- the element and the reported errors are those of the text of the page, in its encoding
pub record IsBytesPage (page : List ℕ) (limit : ℕ) (e : HtmlElement) (reported : PageNotes) : Type 0
  where
    pub text : List ℕ
    pub decoded : page_text page ≡ Ok (reported.encoding, text)
    pub read : IsPage text (page_read limit text) e reported

-- the fault is that of the bytes, or the refusal of their text
abbrev pub IsBytesFault : (page : List ℕ) → (limit : ℕ) → PageFault → Type 0
IsBytesFault page limit (fault.Refused refusal place) = (e : Encoding) × (text : List ℕ)
    × (page_text page ≡ Ok (e, text))
    × IsFault text (page_read limit text) (fault.Refused refusal place)
IsBytesFault page limit other = IsNoText page (page_text page) other

-- a call reads a page of bytes like its text, or fails because the bytes are no text
pub record GivesBytes (r : Result (HtmlElement × PageNotes) PageFault) (page : List ℕ)
    (limit : ℕ) : Type 0 where
  pub made : IfOk r (λ read. IsBytesPage page limit read.0 read.1)
  pub fault : IfErr r (IsBytesFault page limit)
