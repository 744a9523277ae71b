-- General facts about tests, lists, texts and values that may be there.
use Rattle.std.proofs.Common.{◌≡◌, ℕ, ◌<◌, Bool, true, false, ◌||◌, List, [], ◌∷◌, refl, sym, ap, ◌∙◌, bytes_eq, chars, ltb-true, ◌+◌, ◌-◌, ◌++◌, not, length, take, drop, get_or, arith, Option, Some, None}
use Rattle.std.proofs.lemmas.{Bool.{and_from, and_parts, false≢true}, List.{append-nil, take_at, drop_at, drop_more, length-append}}
use Rattle.std.proofs.lemmas.{Str.{chars-encodes, chars_past_char, scalars-chars}, Slice.Eq.{bytes_eq-Decides}}
use Rattle.std.proofs.lemmas.Str.Ascii.{IsAscii-nil, IsAscii-cons}
use Rattle.std.specs.{Bool.{one_answer}, Prelude.{is_some, is_none}, Str.{IsAscii, IsUtf8}}
use lib.Utf8.{scalar, scalars, encode}
use Rattle.html_names_core.specs.{Characters.{all}, Names.{is_ascii}}

pub bytes_eq-same : (a b : List ℕ) → bytes_eq a b ≡ true → a ≡ b
bytes_eq-same a b equal = (bytes_eq-Decides a b).0 equal

pub bytes_eq-refl : (a : List ℕ) → bytes_eq a a ≡ true
bytes_eq-refl a = (bytes_eq-Decides a a).1 refl

pub bytes_eq-sym : (a b : List ℕ) → bytes_eq a b ≡ bytes_eq b a
bytes_eq-sym a b =
    one_answer (bytes_eq a b) (bytes_eq b a) (bytes_eq-Decides a b)
    (λ e. sym (bytes_eq-same b a e), λ e. (bytes_eq-Decides b a).1 (sym e))

pub is_ascii_is : (s : List ℕ) → is_ascii s ≡ true → IsAscii s
is_ascii_is [] h = IsAscii-nil
is_ascii_is (c ∷ cs) h = IsAscii-cons c cs (ltb-true c 128 (and_parts _ _ h).0)
    (is_ascii_is cs (and_parts _ _ h).1)

pub chars-encode : (c : ℕ) → scalar c ≡ true → chars (encode c) ≡ c ∷ []
chars-encode c h = ap chars (sym (append-nil (encode c)))
    ∙ chars-encodes (c ∷ []) (and_from (scalar c) true h refl)

pub first_scalar : (bs rest : List ℕ) (c : ℕ) → IsUtf8 bs → bs ≡ encode c ++ rest → scalar c ≡ true
first_scalar bs rest c u e =
    (and_parts (scalar c) (scalars (chars rest))
    (ap scalars (sym (chars_past_char bs rest c u e)) ∙ scalars-chars bs u)).0

-- the last of a list, taken off and alone
pub last_taken : {A : Type 0} (front back : List A) (n : ℕ) → length back ≡ n →
    take (length (front ++ back) - n) (front ++ back) ≡ front
last_taken front back n is = take_at front back (length (front ++ back) - n)
    (omega (arith, length-append front back, is))

pub last_dropped : {A : Type 0} (front back : List A) (n : ℕ) → length back ≡ n →
    drop (length (front ++ back) - n) (front ++ back) ≡ back
last_dropped front back n is = drop_at front back (length (front ++ back) - n)
    (omega (arith, length-append front back, is))

-- how many stand before the rest, and what does
pub front_length : {A : Type 0} (whole front rest : List A) → whole ≡ front ++ rest →
    length front ≡ length whole - length rest
front_length whole front rest e = omega (arith, ap length e, length-append front rest)

pub front_taken : {A : Type 0} (whole front rest : List A) → whole ≡ front ++ rest →
    take (length whole - length rest) whole ≡ front
front_taken whole front rest e =
    ap (λ n. take n whole) (sym (front_length whole front rest e))
    ∙ (ap (take (length front)) e ∙ take_at front rest (length front) refl)

-- what stands from a place on, with what stands there
pub from_place : {A : Type 0} (xs : List A) (k : ℕ) (x : A) → k < length xs → x ≡ get_or xs k x →
    drop k xs ≡ x ∷ drop (k + 1) xs
from_place xs k x below is = drop_more xs k x below ∙ ap (λ y. y ∷ drop (k + 1) xs) (sym is)

pub all_append : (p : ℕ → Bool) (xs ys : List ℕ) → all p xs ≡ true → all p ys ≡ true →
    all p (xs ++ ys) ≡ true
all_append p [] ys h k = k
all_append p (x ∷ xs) ys h k = grind (arith, all_append p xs ys)

pub implied : (a b : Bool) → (not a || b) ≡ true → a ≡ true → b ≡ true
implied true b holds is = holds
implied false b holds is = absurd (false≢true is)

pub none_from_not_some : {A : Type 0} (o : Option A) → is_some o ≡ false → o ≡ None
none_from_not_some None absent = refl
none_from_not_some (Some x) absent = absurd (false≢true (sym absent))

pub none_from_is_none : {A : Type 0} (o : Option A) → is_none o ≡ true → o ≡ None
none_from_is_none None absent = refl
none_from_is_none (Some x) absent = absurd (false≢true absent)
