-- Texts and words of ASCII, by bytes and by characters.
use Rattle.std.proofs.Common.{◌≡◌, ℕ, zero, suc, ◌≤◌, true, List, [], ◌∷◌, ◌++◌, bytes_eq, chars, drop, eqb, length, map, take, refl, sym, ap, ◌∙◌, subst, arith, length-append}
use Rattle.std.proofs.lemmas.{Bool.Decides.{Decides-eqb, nat_tests}, List.{length-map, take-append-drop, take_at}}
use Rattle.std.proofs.lemmas.{Str.{IsAscii-take, IsUtf8-from_ascii, chars-IsAscii, encodes-chars, encodes-IsAscii}, Slice.Eq.{starts_is}}
use Rattle.std.specs.{Char.{to_ascii_lowercase}, List.{starts_with}, Str.{IsUtf8, IsAscii}}
use lib.Utf8.{encodes}
use Rattle.html_names_core.{proofs.Basics.{is_ascii_is}, proofs.Lists.{chars_ascii, bytes_eq-chars}, specs.Names.{is_ascii}}
use Rattle.html_text.proofs.{Places.{first_long}, RawEnds.{raised}, Words.{front_ascii}}

empty_of : (cs t : List ℕ) → encodes cs ≡ t → eqb (length cs) 0 ≡ eqb (length t) 0
empty_of [] t e = ap (λ l. eqb (length l) 0) e
empty_of (c ∷ cs) t e =
    let long = first_long t (encodes cs) c (sym e) in
    let some : 1 ≤ length t = omega (arith, long.0, long.1) in
    grind (arith, nat_tests)

pub is_word : (n t : List ℕ) → is_ascii n ≡ true → IsUtf8 t →
    bytes_eq (chars t) n ≡ bytes_eq t n
is_word n t a u = ap (bytes_eq (chars t)) (sym (chars_ascii n a))
    ∙ bytes_eq-chars t n u (IsUtf8-from_ascii n (is_ascii_is n a))

pub empty_chars : (t : List ℕ) → IsUtf8 t → eqb (length (chars t)) 0 ≡ eqb (length t) 0
empty_chars t u = empty_of (chars t) t (encodes-chars t u)

-- a text is a word, once its letters are made small, by its bytes where by its characters

pub lowered_down : (w t : List ℕ) → IsAscii w → map to_ascii_lowercase t ≡ w →
    map to_ascii_lowercase (chars t) ≡ w
lowered_down w t a e = ap (map to_ascii_lowercase) (chars-IsAscii t (raised t w e a)) ∙ e

pub lowered_up : (w t : List ℕ) → IsAscii w → IsUtf8 t → map to_ascii_lowercase (chars t) ≡ w →
    map to_ascii_lowercase t ≡ w
lowered_up w t a u e =
    let same : t ≡ chars t =
    sym (encodes-chars t u) ∙ encodes-IsAscii (chars t) (raised (chars t) w e a) in
    ap (map to_ascii_lowercase) same ∙ e

map-take : (n : ℕ) (w : List ℕ) →
    map to_ascii_lowercase (take n w) ≡ take n (map to_ascii_lowercase w)
map-take zero w = refl
map-take (suc n) [] = refl
map-take (suc n) (c ∷ cs) = ap (λ l. to_ascii_lowercase c ∷ l) (map-take n cs)

pub small_front : (w : List ℕ) (n : ℕ) → map to_ascii_lowercase w ≡ w →
    map to_ascii_lowercase (take n w) ≡ take n w
small_front w n e = map-take n w ∙ ap (take n) e

-- a word begins with a text, once its letters are made small
module _ (w t : List ℕ) (a : is_ascii w ≡ true) (small : map to_ascii_lowercase w ≡ w)
    (u : IsUtf8 t) where
  abbrev low : List ℕ
  low = map to_ascii_lowercase (chars t)

  pub begun_so : length t ≤ length w → map to_ascii_lowercase t ≡ take (length t) w →
      starts_with eqb w low ≡ true
  begun_so fits e =
      let front = lowered_down (take (length t) w) t
      (IsAscii-take w (length t) (is_ascii_is w a)) e in
      (starts_is Decides-eqb w low (starts_with eqb w low) refl).1 (drop (length t) w)
      (sym (take-append-drop (length t) w) ∙ ap (λ l. l ++ drop (length t) w) (sym front))

  pub begins_so : starts_with eqb w low ≡ true →
      (length t ≤ length w) × (map to_ascii_lowercase t ≡ take (length t) w)
  begins_so h =
      let rest = drop (length low) w in
      let whole : w ≡ low ++ rest = (starts_is Decides-eqb w low (starts_with eqb w low) refl).0 h in
      let ascii : IsAscii low = front_ascii low rest (subst IsAscii whole (is_ascii_is w a)) in
      let own : map to_ascii_lowercase t ≡ low = lowered_up low t ascii u refl in
      let long : length t ≡ length low =
      sym (length-map t to_ascii_lowercase) ∙ ap length own in
      let front : take (length t) w ≡ low =
      ap (λ n. take n w) long ∙ (ap (take (length low)) whole ∙ take_at low rest (length low) refl) in (
        omega (arith, long, ap length whole, length-append low rest),
        own ∙ sym front,
      )
