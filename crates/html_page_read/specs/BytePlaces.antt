-- Places in the bytes of a page, which count lines and columns of the text before them. Offsets count
-- the bytes of the page.
use Rattle.std.specs.Prelude.{ℕ, List, [], length, take, Result, Ok, Err}
use lib.Utf8.{encodes}
use Rattle.html_page_encoding.specs.{Decoded.{decoded}, PageEncodings.{FaultView, page_encoding}}
use Rattle.html_page_encoding.specs.declared.encoding.Encoding.{Encoding}
use Rattle.html_page_encoding.specs.declared.encoding.Encoding.TheVariants.{Windows1252}
use Rattle.html_page_encoding.specs.declared.fault.EncodingFault.{EncodingFault}
use Rattle.html_page_encoding.specs.declared.fault.EncodingFault.TheVariants as encoding
use Rattle.html_page_read.specs.{PagePlaces.{place_at}, declared.fault.PageFault.{PageFault}}
use Rattle.html_page_read.specs.declared.fault.PageFault.TheVariants as fault
use Rattle.html_text.specs.declared.place.Place.{Place}

-- the line and the column behind a text, with that offset
abbrev pub behind : (text : List ℕ) → (offset : ℕ) → Place
behind text offset = record (place_at text (length (encodes text))) { offset = offset }

-- the text of bytes, or no text if they are none
abbrev pub text_or_none : Result (List ℕ) ℕ → List ℕ
text_or_none (Ok text) = text
text_or_none (Err place) = []

-- the place of a byte behind bytes in that encoding
abbrev pub byte_place : Encoding → (page : List ℕ) → (offset : ℕ) → Place
byte_place e page n = behind (text_or_none (decoded e (take n page))) n

-- the place of a label, where each byte is a character
abbrev pub label_place : (page : List ℕ) → (offset : ℕ) → Place
label_place = byte_place Windows1252

abbrev pub place_in : Result Encoding FaultView → (page : List ℕ) → (offset : ℕ) → Place
place_in (Ok e) = byte_place e
place_in (Err fault) = label_place

-- the place of a byte in the encoding of the page
abbrev pub no_text_place : (page : List ℕ) → (offset : ℕ) → Place
no_text_place page = place_in (page_encoding page) page

-- a fault of the bytes of a page, with its place
abbrev pub placed_fault : (page : List ℕ) → EncodingFault → PageFault
placed_fault page encoding.OutOfMemory = fault.OutOfMemory
placed_fault page (encoding.UnknownLabel label n) = fault.UnknownLabel label (label_place page n)
placed_fault page (encoding.NotText n) = fault.NotText (no_text_place page n)
