-- The encoding of a page of bytes (HTML Standard 13.2.3.1), and its text. A page that declares an
-- encoding by a label that is not known is refused, where a browser passes over the label.
use Rattle.std.specs.{List.{starts_with}, Option.{option_or}, Str.{is_utf8}}
use Rattle.std.specs.Prelude.{ℕ, ◌-◌, ◌==◌, List, [], ◌∷◌, if◌then◌else◌, length, take, Option, Some, None, Result, Ok, Err}
use Rattle.html_page_encoding.specs.{Attributes.{Part}, Decoded.{decoded}, Labels.{label_encoding}, Prescan.{scanned}, XmlLabels.{xml_label}}
use Rattle.html_page_encoding.specs.declared.encoding.Encoding.{Encoding}
use Rattle.html_page_encoding.specs.declared.encoding.Encoding.TheVariants as encoding

-- a label that is not known, or bytes that are no text, and the offset of either
pub data FaultView : Type 0 where
  UnknownLabel : (label : List ℕ) → (place : ℕ) → FaultView
  NotText : (place : ℕ) → FaultView

-- by a byte order mark, or by the beginning of an XML declaration in UTF-16
unfoldable pub marked : List ℕ → Option Encoding
marked bs =
    if starts_with ◌==◌ bs (0xef ∷ 0xbb ∷ 0xbf ∷ []) then Some encoding.Utf8
    else (if starts_with ◌==◌ bs (0xfe ∷ 0xff ∷ []) then Some encoding.Utf16BigEndian
    else (if starts_with ◌==◌ bs (0xff ∷ 0xfe ∷ []) then Some encoding.Utf16LittleEndian
    else (if starts_with ◌==◌ bs (0x3c ∷ 0 ∷ 0x3f ∷ 0 ∷ 0x78 ∷ 0 ∷ [])
    then Some encoding.Utf16LittleEndian
    else (if starts_with ◌==◌ bs (0 ∷ 0x3c ∷ 0 ∷ 0x3f ∷ 0 ∷ 0x78 ∷ [])
    then Some encoding.Utf16BigEndian else None))))

-- by no more than its bytes
unfoldable pub guessed : List ℕ → Encoding
guessed bs = if is_utf8 bs then encoding.Utf8 else encoding.Windows1252

abbrev pub known_or : Result Encoding FaultView → Option Encoding → Result Encoding FaultView
known_or unknown None = unknown
known_or unknown (Some e) = Ok e

-- by a label in so many bytes
abbrev pub labelled : (length : ℕ) → Part → Result Encoding FaultView
labelled length p =
    known_or (Err (UnknownLabel p.text (length - p.left))) (label_encoding p.text)

abbrev pub label_or : Result Encoding FaultView → (length : ℕ) → Option Part →
    Result Encoding FaultView
label_or other length None = other
label_or other length (Some p) = labelled length p

-- the bytes in which a label is looked for
abbrev pub head : List ℕ → List ℕ
head bs = take 1024 bs

-- a label in markup goes before one in an XML declaration
unfoldable pub declared : List ℕ → Option Part
declared bs = option_or (scanned bs) (xml_label bs)

-- the encoding of a label, as one that is declared
abbrev pub found : Result Encoding FaultView → Result (Option Encoding) FaultView
found (Ok e) = Ok (Some e)
found (Err fault) = Err fault

-- by a label in so many bytes, if there is one
abbrev pub if_labelled : (length : ℕ) → Option Part → Result (Option Encoding) FaultView
if_labelled length None = Ok None
if_labelled length (Some p) = found (labelled length p)

-- by the first bytes, or else in the other way
abbrev pub marked_or : Result (Option Encoding) FaultView → Option Encoding →
    Result (Option Encoding) FaultView
marked_or other None = other
marked_or other (Some e) = Ok (Some e)

-- by the first bytes or a label, if there is either
unfoldable pub declared_encoding : List ℕ → Result (Option Encoding) FaultView
declared_encoding bs = marked_or (if_labelled (length (head bs)) (declared (head bs))) (marked bs)

unfoldable pub page_encoding : List ℕ → Result Encoding FaultView
page_encoding bs = known_or (label_or (Ok (guessed bs)) (length (head bs)) (declared (head bs)))
    (marked bs)

abbrev pub text_or_fault : Encoding → Result (List ℕ) ℕ → Result (Encoding × List ℕ) FaultView
text_or_fault e (Ok text) = Ok (e, text)
text_or_fault e (Err place) = Err (NotText place)

abbrev pub text_in : (page : List ℕ) → Result Encoding FaultView →
    Result (Encoding × List ℕ) FaultView
text_in page (Ok e) = text_or_fault e (decoded e page)
text_in page (Err fault) = Err fault

-- the encoding of a page, and its text
unfoldable pub page_text : List ℕ → Result (Encoding × List ℕ) FaultView
page_text page = text_in page (page_encoding page)
