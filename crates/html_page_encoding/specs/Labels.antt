-- Labels of encodings (Encoding Standard, "names and labels").
use Rattle.std.specs.Char.{to_ascii_lowercase}
use Rattle.std.specs.Prelude.{ℕ, List, ◌++◌, codes, map, if◌then◌else◌, Option, Some, None}
use Rattle.html_names_core.specs.Names.{listed_names, stands_in}
use Rattle.html_page_encoding.specs.declared.encoding.Encoding.{Encoding}
use Rattle.html_page_encoding.specs.declared.encoding.Encoding.TheVariants as encoding

abbrev pub utf8_labels : List (List ℕ)
utf8_labels = listed_names
    (codes "unicode-1-1-utf-8 unicode11utf8 unicode20utf8 utf-8 utf8 x-unicode20utf8")

-- those of UTF-16BE and UTF-16LE
abbrev pub utf16_labels : List (List ℕ)
utf16_labels = listed_names (codes "unicodefffe utf-16be")
    ++ listed_names (codes "csunicode iso-10646-ucs-2 ucs-2 unicode unicodefeff utf-16 utf-16le")

abbrev pub windows_labels : List (List ℕ)
windows_labels = listed_names (codes "ansi_x3.4-1968 ascii cp1252 cp819 csisolatin1 ibm819")
    ++ listed_names (codes "iso-8859-1 iso-ir-100 iso8859-1 iso88591 iso_8859-1 iso_8859-1:1987")
    ++ listed_names (codes "l1 latin1 us-ascii windows-1252 x-cp1252")

abbrev pub user_labels : List (List ℕ)
user_labels = listed_names (codes "x-user-defined")

abbrev pub lowered_encoding : List ℕ → Option Encoding
lowered_encoding label = if stands_in (utf8_labels ++ utf16_labels) label then Some encoding.Utf8
    else (if stands_in (windows_labels ++ user_labels) label then Some encoding.Windows1252
    else None)

-- the encoding of a page that declares the label, where UTF-16 stands for UTF-8, and x-user-defined
-- for windows-1252 (HTML Standard 13.2.3.2)
unfoldable pub label_encoding : List ℕ → Option Encoding
label_encoding label = lowered_encoding (map to_ascii_lowercase label)

-- the names of encodings
abbrev pub encoding_name : Encoding → List ℕ
encoding_name encoding.Utf8 = codes "UTF-8"
encoding_name encoding.Utf16LittleEndian = codes "UTF-16LE"
encoding_name encoding.Utf16BigEndian = codes "UTF-16BE"
encoding_name encoding.Windows1252 = codes "windows-1252"
