-- Pages, with the encoding or the label that the standards give them, and texts.
use Rattle.std.specs.Prelude.{◌≡◌, ℕ, List, [], ◌∷◌, ◌++◌, codes, map, Result, Ok, Err}
use Rattle.html_page_encoding.specs.{Decoded.{decoded}, PageEncodings.{FaultView, UnknownLabel, page_encoding}}
use Rattle.html_page_encoding.specs.declared.encoding.Encoding.{Encoding}
use Rattle.html_page_encoding.specs.declared.encoding.Encoding.TheVariants.{Utf8, Utf16BigEndian, Utf16LittleEndian, Windows1252}

abbrev pub Row : Type 0
Row = List ℕ × Result Encoding FaultView

-- each page has that encoding, or is refused for that label
abbrev pub AreRead : List Row → Type 0
AreRead rows = map (λ row. page_encoding row.0) rows ≡ map (λ row. row.1) rows

abbrev pub bytes : List Row
bytes =
    ([], Ok Utf8)
    ∷ (codes "a", Ok Utf8)
    ∷ (0x80 ∷ [], Ok Windows1252)
    ∷ (0xef ∷ 0xbb ∷ 0xbf ∷ 0x80 ∷ [], Ok Utf8)
    ∷ (0xef ∷ 0xbb ∷ [], Ok Windows1252)
    ∷ (0xff ∷ 0xfe ∷ [], Ok Utf16LittleEndian)
    ∷ (0xfe ∷ 0xff ∷ codes "<meta charset=latin1>", Ok Utf16BigEndian)
    ∷ (0x3c ∷ 0 ∷ 0x3f ∷ 0 ∷ 0x78 ∷ 0 ∷ [], Ok Utf16LittleEndian)
    ∷ (0 ∷ 0x3c ∷ 0 ∷ 0x3f ∷ 0 ∷ 0x78 ∷ [], Ok Utf16BigEndian)
    ∷ []

abbrev pub charsets : List Row
charsets =
    (codes "<!DOCTYPE html><meta charset=latin1>", Ok Windows1252)
    ∷ (codes "<META ChARSET = ' LATIN1\t'>", Ok Windows1252)
    ∷ (codes "<meta/charset=\"latin1\"/>", Ok Windows1252)
    ∷ (codes "<meta charset=utf-8>" ++ 0x80 ∷ [], Ok Utf8)
    ∷ (codes "<meta charset=UTF-16LE>", Ok Utf8)
    ∷ (codes "<meta charset=x-user-defined>", Ok Windows1252)
    ∷ (codes "<meta charset=big5>", Err (UnknownLabel (codes "big5") 14))
    ∷ (codes "<meta charset=\" a b \">", Err (UnknownLabel (codes "a b") 16))
    ∷ (codes "<meta charset=' '><meta charset=latin1>", Ok Windows1252)
    ∷ (codes "<meta charset=latin1><meta charset=big5>", Ok Windows1252)
    ∷ (codes "<meta charset=latin1 charset=big5>", Ok Windows1252)
    ∷ (codes "<meta =charset=latin1>", Ok Utf8)
    ∷ (codes "<meta charset=latin1", Ok Utf8)
    ∷ (codes "<meta charset='latin1>", Ok Utf8)
    ∷ []

abbrev pub pragmas : List Row
pragmas =
    (codes "<meta http-equiv=Content-Type content='a; charset=latin1'>", Ok Windows1252)
    ∷ (codes "<meta content='a;charset=latin1;b' http-equiv=content-type>", Ok Windows1252)
    ∷ (codes "<meta http-equiv=content-type content='charset, charset = \"l1\"'>", Ok Windows1252)
    ∷ (codes "<meta http-equiv=content-type content='charset=\"charset=latin1'>", Ok Utf8)
    ∷ (
      codes "<meta http-equiv=content-type content='charset= big5;'>",
      Err (UnknownLabel (codes "big5") 48),
    )
    ∷ (codes "<meta name=a content='charset=latin1'>", Ok Utf8)
    ∷ (codes "<meta http-equiv=a http-equiv=content-type content='charset=latin1'>", Ok Utf8)
    ∷ (codes "<meta http-equiv=content-type content='charset=big5' charset=latin1>", Ok Windows1252)
    ∷ (codes "<meta http-equiv=content-type content='charset=latin1' charset>", Ok Utf8)
    ∷ []

abbrev pub markup : List Row
markup =
    (codes "<!-- <meta charset=latin1> -->", Ok Utf8)
    ∷ (codes "<!--><meta charset=latin1>", Ok Windows1252)
    ∷ (codes "<!- ><meta charset=latin1>", Ok Windows1252)
    ∷ (codes "<metal charset=latin1>", Ok Utf8)
    ∷ (codes "<a title='<meta charset=latin1>'>", Ok Utf8)
    ∷ (codes "</a title='<meta charset=latin1>'>", Ok Utf8)
    ∷ (codes "</ title='><meta charset=latin1>'>", Ok Windows1252)
    ∷ (codes "a < b <<meta charset=latin1>", Ok Windows1252)
    ∷ []

abbrev pub declarations : List Row
declarations =
    (codes "<?xml version='1.0' encoding = 'latin1'?><p>", Ok Windows1252)
    ∷ (codes "<?xml encoding=\"EUC-KR\"?>", Err (UnknownLabel (codes "EUC-KR") 16))
    ∷ (codes "<?xml version='1.0'?><p encoding='latin1'>", Ok Utf8)
    ∷ (codes "<?xml encoding=' latin1'?>", Ok Utf8)
    ∷ (codes "<?xml encoding='latin1'?><meta charset=utf-8>", Ok Utf8)
    ∷ []

abbrev pub TextRow : Type 0
TextRow = Encoding × List ℕ × Result (List ℕ) ℕ

-- each page in that encoding has that text, or none from that offset on
abbrev pub AreDecoded : List TextRow → Type 0
AreDecoded rows = map (λ row. decoded row.0 row.1) rows ≡ map (λ row. row.2) rows

abbrev pub texts : List TextRow
texts =
    (Utf8, 0xef ∷ 0xbb ∷ 0xbf ∷ 0xc3 ∷ 0xa9 ∷ [], Ok (0xfeff ∷ 0xe9 ∷ []))
    ∷ (Utf8, 97 ∷ 0xc3 ∷ 97 ∷ [], Err 1)
    ∷ (
      Windows1252,
      97 ∷ 0x80 ∷ 0x81 ∷ 0x9f ∷ 0xa0 ∷ 0xff ∷ [],
      Ok (97 ∷ 0x20ac ∷ 0x81 ∷ 0x178 ∷ 0xa0 ∷ 0xff ∷ []),
    )
    ∷ (Utf16LittleEndian, 0xff ∷ 0xfe ∷ 0x3c ∷ 0 ∷ [], Ok (0xfeff ∷ 60 ∷ []))
    ∷ (Utf16BigEndian, 0xd8 ∷ 0x3d ∷ 0xde ∷ 0 ∷ 0 ∷ 0x41 ∷ [], Ok (0x1f600 ∷ 65 ∷ []))
    ∷ (Utf16BigEndian, 0 ∷ 0x41 ∷ 0xd8 ∷ 0x3d ∷ 0 ∷ 0x41 ∷ [], Err 2)
    ∷ (Utf16BigEndian, 0xd8 ∷ 0x3d ∷ 0xde ∷ 0 ∷ 0xde ∷ 0 ∷ [], Err 4)
    ∷ (Utf16BigEndian, 0 ∷ 0x41 ∷ 0 ∷ [], Err 2)
    ∷ (Utf16BigEndian, 0xd8 ∷ 0x3d ∷ 0xde ∷ [], Err 0)
    ∷ []
