-- Pages in UTF-8, and others.
use Rattle.std.proofs.Common.{◌≡◌, ℕ, List, false, chars, map, Err, Ok, refl, ap}
use Rattle.std.proofs.lemmas.{Bool.{false_from_ne_true}, Str.{IsUtf8-from_is_utf8, is_utf8-from_IsUtf8}}
use Rattle.std.specs.{Str.{IsUtf8, is_utf8}, Str.Lossy.{utf8_valid_len}}
use Rattle.html_page_encoding.specs.{Decoded.{decoded, utf8_text}, PageEncodings.{guessed, text_in, text_or_fault}, Windows.{windows_char}}
use Rattle.html_page_encoding.specs.declared.encoding.Encoding.TheVariants as encoding

is_not : (bs : List ℕ) → ¬ (IsUtf8 bs) → is_utf8 bs ≡ false
is_not bs h = false_from_ne_true (is_utf8 bs) (λ e. h (IsUtf8-from_is_utf8 bs e))

pub utf8_guessed : (bs : List ℕ) → IsUtf8 bs → guessed bs ≡ encoding.Utf8
unfolding guessed
utf8_guessed bs u = rw (is_utf8-from_IsUtf8 bs u)

pub other_guessed : (bs : List ℕ) → ¬ (IsUtf8 bs) → guessed bs ≡ encoding.Windows1252
unfolding guessed
other_guessed bs h = rw (is_not bs h)

pub utf8 : (bs : List ℕ) → IsUtf8 bs → utf8_text bs ≡ Ok (chars bs)
utf8 bs u = rw (is_utf8-from_IsUtf8 bs u)

pub no_utf8 : (bs : List ℕ) → ¬ (IsUtf8 bs) → utf8_text bs ≡ Err (utf8_valid_len bs)
no_utf8 bs h = rw (is_not bs h)

-- a page that declares no encoding, and is UTF-8, is read as UTF-8
pub utf8_page : (bs : List ℕ) → IsUtf8 bs →
    text_in bs (Ok (guessed bs)) ≡ Ok (encoding.Utf8, chars bs)
unfolding decoded
utf8_page bs u = rw (utf8_guessed bs u) (ap (text_or_fault encoding.Utf8) (utf8 bs u))

-- a page that declares no encoding, and is not UTF-8, is read as windows-1252
pub other_page : (bs : List ℕ) → ¬ (IsUtf8 bs) →
    text_in bs (Ok (guessed bs)) ≡ Ok (encoding.Windows1252, map windows_char bs)
unfolding decoded
other_page bs h = rw (other_guessed bs h) refl
