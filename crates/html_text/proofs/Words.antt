-- Words of ASCII in a text, by its characters.
use Rattle.std.proofs.Common.{◌≡◌, ℕ, ◌<◌, true, false, List, [], ◌∷◌, ◌++◌, drop, refl, sym, ap, ◌∙◌, arith, bytes_eq, chars, length, subst}
use Rattle.std.proofs.lemmas.{Bool.{false_from_ne_true}, List.{take_at}}
use Rattle.std.proofs.lemmas.Str.{IsAscii-take, chars-IsAscii, chars-append, encodes-chars, encode_ascii, encodes-append, encodes-IsAscii, IsUtf8-from_ascii}
use Rattle.std.proofs.lemmas.{Bool.Decides.{Decides-eqb}, Slice.Eq.{starts_is}, Str.Ascii.{IsAscii-cons, IsAscii-nil}}
use Rattle.std.specs.{Str.{IsAscii, IsUtf8}, Str.Pattern.{HasCharAt}}
use lib.Utf8.{encode, encodes}
use Rattle.html_names_core.{proofs.Basics.{is_ascii_is, bytes_eq-same}, specs.Names.{is_ascii}}
use Rattle.html_text.specs.Words.{begins}

pub chars_behind_word : (n s rest : List ℕ) → is_ascii n ≡ true → s ≡ n ++ rest →
    chars s ≡ chars n ++ chars rest
chars_behind_word n s rest a e =
    ap chars e ∙ chars-append n rest (IsUtf8-from_ascii n (is_ascii_is n a))

pub chars_after_ascii : (n s rest : List ℕ) → IsAscii n → s ≡ n ++ rest → chars s ≡ n ++ chars rest
chars_after_ascii n s rest a e =
    ap chars e ∙ (chars-append n rest (IsUtf8-from_ascii n a)
    ∙ ap (λ l. l ++ chars rest) (chars-IsAscii n a))

pub chars_after_char : (c n : ℕ) (s rest : List ℕ) → c < 128 → HasCharAt c s 0 n →
    rest ≡ drop n s → chars s ≡ c ∷ chars rest
chars_after_char c n s rest small h e =
    chars_after_ascii (c ∷ []) s rest (IsAscii-cons c [] small IsAscii-nil)
    (h.split ∙ (ap (λ l. encode c ++ l) (sym e) ∙ ap (λ l. l ++ rest) (encode_ascii c small)))

pub chars_after_word : (n s rest : List ℕ) → is_ascii n ≡ true → s ≡ n ++ rest →
    chars s ≡ n ++ chars rest
chars_after_word n s rest a e = chars_after_ascii n s rest (is_ascii_is n a) e

-- a text that has the word in front by its characters has it by its bytes
pub word_before : (n s rest : List ℕ) → is_ascii n ≡ true → IsUtf8 s → chars s ≡ n ++ rest →
    s ≡ n ++ encodes rest
word_before n s rest a u e =
    sym (encodes-chars s u) ∙ (ap encodes e ∙ (encodes-append n rest
    ∙ ap (λ l. l ++ encodes rest) (encodes-IsAscii n (is_ascii_is n a))))

pub word_is : (n s : List ℕ) → is_ascii n ≡ true → s ≡ n → chars s ≡ n
word_is n s a e = ap chars e ∙ chars-IsAscii n (is_ascii_is n a)

pub word_is_not : (n s : List ℕ) → is_ascii n ≡ true → IsUtf8 s → (s ≡ n → ⊥) →
    bytes_eq (chars s) n ≡ false
word_is_not n s a u h =
    false_from_ne_true (bytes_eq (chars s) n) (λ e. h (sym (encodes-chars s u)
    ∙ (ap encodes (bytes_eq-same (chars s) n e) ∙ encodes-IsAscii n (is_ascii_is n a))))

-- ASCII is its own bytes
pub own_bytes : (ds : List ℕ) → IsUtf8 ds → IsAscii (chars ds) → ds ≡ chars ds
own_bytes ds u a = sym (encodes-chars ds u) ∙ encodes-IsAscii (chars ds) a

-- a word of ASCII begins with a text where it begins with its characters

pub front_ascii : (front rest : List ℕ) → IsAscii (front ++ rest) → IsAscii front
front_ascii front rest a = subst IsAscii (take_at front rest (length front) refl)
    (IsAscii-take (front ++ rest) (length front) a)

front_own : (word front : List ℕ) → IsAscii word → begins word front ≡ true → IsAscii front
front_own word front a h = front_ascii front _
    (subst IsAscii ((starts_is Decides-eqb word front (begins word front) refl).0 h) a)

pub begins-chars : (word text : List ℕ) → IsAscii word → IsUtf8 text →
    begins word text ≡ begins word (chars text)
begins-chars word text a u = grind (
  arith,
  front_own word text a,
  front_own word (chars text) a,
  chars-IsAscii text,
  own_bytes text u,
)
