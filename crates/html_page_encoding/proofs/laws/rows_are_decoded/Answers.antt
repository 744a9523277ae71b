use Rattle.std.proofs.Common.{refl}
use Rattle.std.specs.{Char.Utf16.{utf16_chars}, Str.{chars, is_utf8}, Str.Lossy.{utf8_valid_len}}
use lib.Utf8.{encode}
use Rattle.html_names_core.specs.Names.{stands_in}
use Rattle.html_page_encoding.specs.Attributes.{attributes_from, attributes_within, tag_front, taken}
use Rattle.html_page_encoding.specs.Classes.{behind, behind_bytes, behind_first, behind_word, front, is_word}
use Rattle.html_page_encoding.specs.ContentLabels.{behind_charset, content_label}
use Rattle.html_page_encoding.specs.{Decoded.{decoded, utf16_from}, Labels.{label_encoding}}
use Rattle.html_page_encoding.specs.PageEncodings.{declared, guessed, marked, page_encoding}
use Rattle.html_page_encoding.specs.Prescan.{markup_of, markup_passed, meta_label, next_piece, scanned, scanned_within, stripped, stripped_end}
use Rattle.html_page_encoding.specs.XmlLabels.{declaration, declared_label, xml_label}
use Rattle.html_page_encoding.proofs.laws.rows_are_decoded.Goals as goal

pub returns : goal.returns
unfolding page_encoding marked scanned scanned_within next_piece markup_of markup_passed
    meta_label stripped stripped_end label_encoding behind_charset content_label stands_in
    attributes_from attributes_within tag_front taken behind behind_bytes behind_first behind_word
    front is_word declared xml_label declared_label declaration guessed is_utf8 encode chars
    decoded utf16_from utf8_valid_len utf16_chars
returns c = record {
  bytes = refl;
  charsets = refl;
  pragmas = refl;
  markup = refl;
  declarations = refl;
  texts = refl;
}
