-- Closing tags at the end of a text, by its bytes and by its characters.
use Rattle.std.proofs.Common.{◌≡◌, ℕ, suc, eqb, ◌+◌, ◌-◌, ◌<◌, ◌≤◌, Bool, true, List, [], ◌∷◌, ◌++◌, bytes_eq, chars, codes, drop, take, map, refl, sym, ap, ◌∙◌, subst, arith, length, get_or, length-append, length-drop}
use Rattle.std.proofs.lemmas.{Bool.Decides.{nat_tests}, List.{take-append-drop, length-map, get_or-drop, take_rest}}
use Rattle.std.proofs.lemmas.Str.{chars-append, chars-IsAscii, encodes-chars, encodes-append, encodes-IsAscii, IsUtf8-take, IsCharBoundary-before_ascii}
use Rattle.std.proofs.lemmas.{Slice.Eq.{bytes_eq-Decides}, Str.Ascii.{IsAscii-nil, IsAscii-cons, IsAscii-map, lowercase_ascii}}
use Rattle.std.specs.{Char.{to_ascii_lowercase}, Str.{IsUtf8, IsAscii, IsCharBoundary}}
use lib.Utf8.{encodes}
use Rattle.html_names_core.{proofs.Basics.{last_dropped, last_taken}, specs.Characters.{IsOf, is_tag_char}}
use Rattle.html_text.{proofs.TagNames.{name_ascii}, specs.ClosingTags.{is_tag_end, closing, ends_closing}, specs.RawEnds.{EndsAt, ends_in}}

-- what a slice to the end holds
pub end_is : (xs ys : List ℕ) (k : ℕ) → ys ≡ xs → take (length ys - k) (drop k ys) ≡ drop k xs
end_is xs ys k e = take_rest ys k ∙ ap (drop k) e

small_ascii : (c : ℕ) → to_ascii_lowercase c < 128 → c < 128
small_ascii c h = grind (arith, nat_tests)

pub raised : (xs ys : List ℕ) → map to_ascii_lowercase xs ≡ ys → IsAscii ys → IsAscii xs
raised [] ys e a = IsAscii-nil
raised (x ∷ xs) ys e a =
    let whole : IsAscii (to_ascii_lowercase x ∷ map to_ascii_lowercase xs) =
    subst IsAscii (sym e) a in
    IsAscii-cons x xs (small_ascii x (whole 0)) (raised xs _ refl (λ k. whole (suc k)))

closing_ascii : (n : List ℕ) → IsOf is_tag_char n → IsAscii (closing n)
closing_ascii n h = IsAscii-cons 60 (47 ∷ map to_ascii_lowercase n) (omega arith)
    (IsAscii-cons 47 (map to_ascii_lowercase n) (omega arith)
    (IsAscii-map to_ascii_lowercase n lowercase_ascii (name_ascii n h)))

-- tests of which each holds where the other does
pub same_tests : (a b : Bool) → (a ≡ true → b ≡ true) → (b ≡ true → a ≡ true) → a ≡ b
same_tests a b f g = grind arith

pub closing_long : (n : List ℕ) → length (closing n) ≡ length n + 2
closing_long n = omega (arith, length-map n to_ascii_lowercase)

small_is : (c d : ℕ) → d < 65 → to_ascii_lowercase c ≡ d → eqb c d ≡ true
small_is c d h e = grind (arith, nat_tests)

-- the first two characters are decided
exact_is : (end n : List ℕ) → map to_ascii_lowercase end ≡ closing n →
    bytes_eq end (codes "</" ++ n) ≡ bytes_eq (drop 2 end) n
exact_is [] n e = cc
exact_is (x ∷ []) n e = cc
exact_is (x ∷ y ∷ rest) n e =
    let p : to_ascii_lowercase x ≡ 60 = cc in
    let q : to_ascii_lowercase y ≡ 47 = cc in
    rw (small_is x 60 (omega arith) p, small_is y 47 (omega arith) q) refl

-- so many characters at the end of a text are a word, once their letters are made small
pub record Ends (w t : List ℕ) (at : ℕ) : Type 0 where
  pub boundary : IsCharBoundary t at
  pub dropped : drop (length (chars t) - length w) (chars t) ≡ drop at t
  pub before : chars (take at t) ≡ take (length (chars t) - length w) (chars t)
  pub ends : ends_in w (chars t) ≡ true

-- the end of the characters is the end of the bytes: a word of ASCII, of so many characters
module _ (w t : List ℕ) (k : ℕ) (a : IsAscii w) (u : IsUtf8 t) (some : 0 < k) (long : length w ≡ k) where
  pub word_by_characters : ends_in w (chars t) ≡ true →
      (k ≤ length t) × (map to_ascii_lowercase (drop (length t - k) t) ≡ w)
  word_by_characters e =
      let place = length (chars t) - length w in
      let end = drop place (chars t) in
      let front = take place (chars t) in
      let is : map to_ascii_lowercase end ≡ w =
      (bytes_eq-Decides (map to_ascii_lowercase end) w).0 e in
      let ascii : IsAscii end = raised end w is a in
      let whole : t ≡ encodes front ++ end = sym (encodes-chars t u)
      ∙ (ap encodes (sym (take-append-drop place (chars t)))
      ∙ (encodes-append front end ∙ ap (λ l. encodes front ++ l) (encodes-IsAscii end ascii))) in
      let far : length end ≡ k = sym (length-map end to_ascii_lowercase) ∙ (ap length is ∙ long) in
      let cut : drop (length t - k) t ≡ end =
      ap (λ l. drop (length l - k) l) whole ∙ last_dropped (encodes front) end k far in (
        omega (arith, ap length whole, length-append (encodes front) end, far),
        ap (map to_ascii_lowercase) cut ∙ is,
      )

  pub word_by_bytes : k ≤ length t → map to_ascii_lowercase (drop (length t - k) t) ≡ w →
      Ends w t (length t - k)
  word_by_bytes fits e =
      let at = length t - k in
      let end = drop at t in
      let ascii : IsAscii end = raised end w e a in
      let there : get_or t (at + 0) 0 < 128 = rw (get_or-drop at t 0 0) at (ascii 0) in
      let same : at + 0 ≡ at = omega arith in
      let boundary : IsCharBoundary t at = IsCharBoundary-before_ascii t at (omega arith)
      (subst (λ n. get_or t n 0 < 128) same there) in
      let cut : chars t ≡ chars (take at t) ++ end = ap chars (sym (take-append-drop at t))
      ∙ (chars-append (take at t) end (IsUtf8-take t at u boundary)
      ∙ ap (λ l. chars (take at t) ++ l) (chars-IsAscii end ascii)) in
      let far : length end ≡ length w = omega (arith, length-drop at t, long) in
      let dropped : drop (length (chars t) - length w) (chars t) ≡ end =
      ap (λ l. drop (length l - length w) l) cut
      ∙ last_dropped (chars (take at t)) end (length w) far in
      record {
        boundary = boundary;
        dropped = dropped;
        before = sym (ap (λ l. take (length l - length w) l) cut
            ∙ last_taken (chars (take at t)) end (length w) far);
        ends = (bytes_eq-Decides _ _).1 (ap (map to_ascii_lowercase) dropped ∙ e);
      }

-- the same of a closing tag
module _ (n t : List ℕ) (h : IsOf is_tag_char n) (u : IsUtf8 t) where
  some : 0 < length n + 2
  some = omega arith

  pub by_characters : ends_closing n (chars t) ≡ true → (length n + 2 ≤ length t)
      × (map to_ascii_lowercase (drop (length t - (length n + 2)) t) ≡ closing n)
  by_characters e = word_by_characters (closing n) t (length n + 2) (closing_ascii n h) u some
      (closing_long n) e

  pub by_bytes : length n + 2 ≤ length t →
      map to_ascii_lowercase (drop (length t - (length n + 2)) t) ≡ closing n →
      (c : ℕ) → is_tag_end c ≡ true → (exact : Bool) →
      exact ≡ bytes_eq (drop 2 (drop (length t - (length n + 2)) t)) n →
      EndsAt n t c (length t - (length n + 2), exact)
  by_bytes fits e c last exact is =
      let end = word_by_bytes (closing n) t (length n + 2) (closing_ascii n h) u some
      (closing_long n) fits e in
      record {
        tag_end = last;
        ends = end.ends;
        exact = is ∙ sym (ap (λ l. bytes_eq l (codes "</" ++ n)) end.dropped
            ∙ exact_is (drop (length t - (length n + 2)) t) n e);
        boundary = end.boundary;
        before = end.before;
      }
