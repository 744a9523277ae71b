-- The first two characters of a name.
use Rattle.std.proofs.Common.{◌≡◌, ℕ, ◌&&◌, false, List, ◌++◌, chars, length, refl}
use Rattle.std.proofs.lemmas.{List.{nil_from_length}, Str.{IsUtf8-past_char, chars-nil, chars_past_char}}
use Rattle.std.specs.{Char.{eq_ignore_ascii_case}, Str.{IsUtf8}}
use Rattle.html_names_core.specs.AttrKinds.{is_event_handler}
use lib.Utf8.{encode}

pub two_read : (bs later rest : List ℕ) (first second : ℕ) → IsUtf8 bs → bs ≡ encode first ++ later →
    later ≡ encode second ++ rest → is_event_handler (chars bs)
    ≡ (eq_ignore_ascii_case first 111 && eq_ignore_ascii_case second 110)
two_read bs later rest first second u one two =
    rw (
      chars_past_char bs later first u one,
      chars_past_char later rest second (IsUtf8-past_char bs later first u one) two,
    ) refl

pub one_read : (bs later : List ℕ) (first : ℕ) → IsUtf8 bs → bs ≡ encode first ++ later →
    length later ≡ 0 → is_event_handler (chars bs) ≡ false
one_read bs later first u one none =
    rw (chars_past_char bs later first u one, nil_from_length later none, chars-nil) refl
