-- Texts in small letters, in bytes and in characters.
use Rattle.std.proofs.Common.{◌≡◌, ℕ, suc, ◌<◌, ◌≤◌, true, false, codes, List, [], ◌∷◌, ◌++◌, refl, sym, ap, ◌∙◌, inl, inr, length, get_or, arith, bytes_eq}
use Rattle.std.proofs.lemmas.{Bool.{cases_lt}, List.{append-nil, map-append}}
use Rattle.std.proofs.lemmas.Str.{inside_one, encode_ascii, encodes-chars, chars-encodes, scalars-chars}
use Rattle.std.{proofs.lemmas.Str.Ascii.{lowercase_is, lowercase_ascii}, specs.Char.{to_ascii_lowercase}, specs.Str.{IsUtf8, chars}}
use lib.Utf8.{scalar, scalars, encode, encodes, low_scalar}
use Rattle.std.proofs.Math.Bool.{or-false}
use Rattle.html_names_core.{proofs.Basics.{bytes_eq-sym}, proofs.Lists.{bytes_eq-chars}, specs.Names.{stands_in}}
use Rattle.html_page_names.specs.ForeignNames.{lowered, is_html_encoding}

high_stays : (c : ℕ) → 128 ≤ c → to_ascii_lowercase c ≡ c
high_stays c high = (lowercase_is c).2 (omega arith)

all_stay : (bs : List ℕ) → ((k : ℕ) → k < length bs → 128 ≤ get_or bs k 0) → lowered bs ≡ bs
all_stay [] high = refl
all_stay (b ∷ bs) high =
    let first = high_stays b (high 0 (omega arith)) in
    let others = all_stay bs (λ k l. high (suc k) (omega (arith, l))) in
    λ i. first i ∷ others i

-- no byte of a character that is not ASCII is ASCII
encode_high : (c : ℕ) → 128 ≤ c → (k : ℕ) → k < length (encode c) → 128 ≤ get_or (encode c) k 0
encode_high c high k l =
    elim (cases_lt (get_or (encode c) k 0) 128) [
      | inl low ↦
          let same = inside_one c [] (encode c) k (sym (append-nil (encode c))) l low in
          omega (arith, same, low)
      | inr above ↦ above
    ]

encode-lowered : (c : ℕ) → lowered (encode c) ≡ encode (to_ascii_lowercase c)
encode-lowered c =
    elim (cases_lt c 128) [
      | inl low ↦
          ap lowered (encode_ascii c low)
          ∙ sym (encode_ascii (to_ascii_lowercase c) (lowercase_ascii c low))
      | inr high ↦ all_stay (encode c) (encode_high c high) ∙ ap encode (sym (high_stays c high))
    ]

scalar-lowered : (c : ℕ) → scalar c ≡ true → scalar (to_ascii_lowercase c) ≡ true
scalar-lowered c is =
    elim (cases_lt c 128) [
      | inl low ↦ low_scalar (to_ascii_lowercase c) (omega (arith, lowercase_ascii c low))
      | inr high ↦ ap scalar (high_stays c high) ∙ is
    ]

pub encodes-lowered : (cs : List ℕ) → lowered (encodes cs) ≡ encodes (lowered cs)
encodes-lowered [] = refl
encodes-lowered (c ∷ cs) =
    map-append to_ascii_lowercase (encode c) (encodes cs)
    ∙ (λ i. encode-lowered c i ++ encodes-lowered cs i)

scalars-lowered : (cs : List ℕ) → scalars cs ≡ true → scalars (lowered cs) ≡ true
scalars-lowered [] are = are
scalars-lowered (c ∷ cs) are = grind (arith, scalar-lowered c, scalars-lowered cs)

in_characters : (bs : List ℕ) → IsUtf8 bs → encodes (lowered (chars bs)) ≡ lowered bs
in_characters bs u = sym (encodes-lowered (chars bs)) ∙ ap lowered (encodes-chars bs u)

utf8-lowered : (bs : List ℕ) → IsUtf8 bs → IsUtf8 (lowered bs)
utf8-lowered bs u =
    (lowered (chars bs), (scalars-lowered (chars bs) (scalars-chars bs u), in_characters bs u))

chars-lowered : (bs : List ℕ) → IsUtf8 bs → chars (lowered bs) ≡ lowered (chars bs)
chars-lowered bs u = sym (ap chars (in_characters bs u))
    ∙ chars-encodes (lowered (chars bs)) (scalars-lowered (chars bs) (scalars-chars bs u))

pub same_lowered : (a b : List ℕ) → IsUtf8 a → IsUtf8 b →
    bytes_eq (lowered (chars a)) (chars b) ≡ bytes_eq (lowered a) b
same_lowered a b u v = ap (λ t. bytes_eq t (chars b)) (sym (chars-lowered a u))
    ∙ bytes_eq-chars (lowered a) b (utf8-lowered a u) v

first_of : (m n t : List ℕ) → bytes_eq t m ≡ true → stands_in (m ∷ n ∷ []) t ≡ true
unfolding stands_in
first_of m n t is = rw (bytes_eq-sym m t, is) refl

second_of : (m n t : List ℕ) → bytes_eq t m ≡ false → stands_in (m ∷ n ∷ []) t ≡ bytes_eq t n
unfolding stands_in
second_of m n t other = rw (bytes_eq-sym m t, other, bytes_eq-sym n t) (or-false (bytes_eq t n))

-- what follows from comparisons with the two media types
pub first_encoding : (t : List ℕ) → true ≡ bytes_eq t (chars (codes "application/xhtml+xml")) →
    true ≡ is_html_encoding t
unfolding is_html_encoding chars
first_encoding t is = sym (first_of _ _ t (sym is))

pub second_encoding : (t : List ℕ) → false ≡ bytes_eq t (chars (codes "application/xhtml+xml")) →
    bytes_eq t (chars (codes "text/html")) ≡ is_html_encoding t
unfolding is_html_encoding chars
second_encoding t other = sym (second_of _ _ t (sym other))
