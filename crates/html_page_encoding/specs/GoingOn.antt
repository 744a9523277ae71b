-- Laws: attributes and markup are read to the end of the bytes, however many there are.
use Rattle.std.specs.Prelude.{◌≡◌, ℕ, List, is_ok, None, true}
use Rattle.html_page_encoding.specs.Attributes.{Meta, attributes_from, attributes_on, tag_front}
use Rattle.html_page_encoding.specs.PageEncodings.{declared, head, marked, page_text}
use Rattle.html_page_encoding.specs.Prescan.{next_piece, scanned, scanned_on}

-- behind an attribute, the next one is read
abbrev pub AttributesGoOn : Type 0
AttributesGoOn = (m : Meta) (bs : List ℕ) →
    attributes_from m bs ≡ attributes_on attributes_from m (tag_front bs)

-- behind a piece without a label, the next one is read
abbrev pub ScanGoesOn : Type 0
ScanGoesOn = (bs : List ℕ) → scanned bs ≡ scanned_on scanned (next_piece bs)

-- a page that declares no encoding has a text
abbrev pub OthersHaveTexts : Type 0
OthersHaveTexts = (page : List ℕ) → marked page ≡ None → declared (head page) ≡ None →
    is_ok (page_text page) ≡ true
