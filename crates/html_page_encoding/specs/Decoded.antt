-- The text of a page in an encoding, or the offset of the first byte or unit that is none (Encoding
-- Standard; a byte order mark is a character of the text).
use Rattle.std.specs.{Char.Utf16.{utf16_chars}, Str.{is_utf8}, Str.Lossy.{utf8_valid_len}}
use Rattle.std.specs.Prelude.{ℕ, ◌+◌, ◌*◌, Bool, true, false, nat_lt, List, [], ◌∷◌, chars, map, if◌then◌else◌, Option, Some, None, Result, Ok, Err}
use Rattle.html_page_encoding.specs.Windows.{windows_char}
use Rattle.html_page_encoding.specs.declared.encoding.Encoding.{Encoding}
use Rattle.html_page_encoding.specs.declared.encoding.Encoding.TheVariants as encoding

-- the units of UTF-16 of which the bytes consist, and whether a byte is left
abbrev pub unit : (big : Bool) → ℕ → ℕ → ℕ
unit big a b = if big then a * 0x100 + b else b * 0x100 + a

abbrev pub units : (big : Bool) → List ℕ → List ℕ
units big [] = []
units big (a ∷ []) = []
units big (a ∷ b ∷ bs) = unit big a b ∷ units big bs

abbrev pub is_odd : List ℕ → Bool
is_odd [] = false
is_odd (a ∷ []) = true
is_odd (a ∷ b ∷ bs) = is_odd bs

-- the number of bytes of a character
abbrev pub utf16_size : ℕ → ℕ
utf16_size c = if nat_lt c 0x1_0000 then 2 else 4

abbrev pub put_first : ℕ → Result (List ℕ) ℕ → Result (List ℕ) ℕ
put_first c (Ok cs) = Ok (c ∷ cs)
put_first c (Err place) = Err place

-- the characters, which begin at that offset, or the offset of the first surrogate that has no
-- partner, or of the byte that is left
abbrev pub gathered : (odd : Bool) (place : ℕ) → List (Option ℕ) → Result (List ℕ) ℕ
gathered odd place [] = if odd then Err place else Ok []
gathered odd place (None ∷ os) = Err place
gathered odd place (Some c ∷ os) = put_first c (gathered odd (place + utf16_size c) os)

-- from that offset on
unfoldable pub utf16_from : (big : Bool) (place : ℕ) → List ℕ → Result (List ℕ) ℕ
utf16_from big place bs = gathered (is_odd bs) place (utf16_chars (units big bs))

abbrev pub utf8_text : List ℕ → Result (List ℕ) ℕ
utf8_text bs = if is_utf8 bs then Ok (chars bs) else Err (utf8_valid_len bs)

unfoldable pub decoded : Encoding → List ℕ → Result (List ℕ) ℕ
decoded encoding.Utf8 bs = utf8_text bs
decoded encoding.Utf16LittleEndian bs = utf16_from false 0 bs
decoded encoding.Utf16BigEndian bs = utf16_from true 0 bs
decoded encoding.Windows1252 bs = Ok (map windows_char bs)
