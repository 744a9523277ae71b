-- Texts that are split around their first character that passes a test, by bytes and by characters.
use Rattle.std.proofs.Common.{◌≡◌, ℕ, ◌+◌, ◌<◌, Bool, true, false, List, [], ◌∷◌, ◌++◌, MatchOption, Option, Some, None, chars, drop, eqb, length, option_map, take, refl, sym, ap, ◌∙◌, subst, arith}
use Rattle.std.proofs.lemmas.{Bool.{eq-eqb}, List.{drop_all, take-append-drop, take_all, take_at}}
use Rattle.std.proofs.Math.Seq.{drop-append-add}
use Rattle.std.proofs.lemmas.Str.{IsCharBoundary-before_ascii, IsUtf8-drop, IsUtf8-take, chars-append, chars_from_encodes, chars_past_char, len_utf8_ascii}
use Rattle.std.specs.List.{after_first, before_first, list_any, position_or_len}
use Rattle.std.specs.{Str.{IsUtf8, IsCharBoundary, NoCharPasses, NonePass}, Str.Pattern.{FindsChar, HasCharAt, SplitsAroundMatch}}
use Rattle.html_page_read.specs.DocumentTypes.{around}
use denote.Ref.{Bor}
use lib.Utf8.{encode}

some_position : (t : ℕ → Bool) (xs ys : List ℕ) (c : ℕ) → NonePass t xs → t c ≡ true →
    position_or_len t (xs ++ c ∷ ys) ≡ length xs
some_position t [] ys c h is = rw is refl
some_position t (x ∷ xs) ys c h is = rw (h.0, some_position t xs ys c h.1 is) (omega arith)

no_position : (t : ℕ → Bool) (xs : List ℕ) → NonePass t xs → position_or_len t xs ≡ length xs
no_position t [] h = refl
no_position t (x ∷ xs) h = rw (h.0, no_position t xs h.1) (omega arith)

some_passes : (t : ℕ → Bool) (xs ys : List ℕ) (c : ℕ) → NonePass t xs → t c ≡ true →
    list_any t (xs ++ c ∷ ys) ≡ true
some_passes t [] ys c h is = rw is refl
some_passes t (x ∷ xs) ys c h is = rw h.0 (some_passes t xs ys c h.1 is)

none_passes : (t : ℕ → Bool) (xs : List ℕ) → NonePass t xs → list_any t xs ≡ false
none_passes t [] h = refl
none_passes t (x ∷ xs) h = rw h.0 (none_passes t xs h.1)

-- a text in which an ASCII character is the first that passes the test, and what stands around it
module _ (t : ℕ → Bool) (bs front after : List ℕ) (i j c : ℕ) (u : IsUtf8 bs)
    (before : NoCharPasses t (take i bs)) (at : HasCharAt c bs i j) (is : t c ≡ true)
    (low : c < 128) (first : front ≡ take i bs) (last : after ≡ drop j bs)
    (fits : length after + j ≡ length bs) where
  cut : IsCharBoundary bs i
  cut = IsCharBoundary-before_ascii bs i (omega (arith, at.ends, len_utf8_ascii c low, fits))
      (omega (arith, at.byte low, low))

  parts : chars bs ≡ chars front ++ c ∷ chars after
  parts =
      let v = IsUtf8-take bs i u cut in
      let back : chars (drop i bs) ≡ c ∷ chars after =
      chars_past_char (drop i bs) after c (IsUtf8-drop bs i u cut)
      (at.split ∙ ap (λ l. encode c ++ l) (sym last)) in
      ap chars (sym (take-append-drop i bs))
      ∙ (chars-append (take i bs) (drop i bs) v
      ∙ (ap (λ l. chars l ++ chars (drop i bs)) (sym first) ∙ ap (λ l. chars front ++ l) back))

  none : NonePass t (chars front)
  none = subst (NonePass t)
      (chars_from_encodes before.0 (take i bs) (IsUtf8-take bs i u cut) before.1
      ∙ ap chars (sym first)) before.2

  place : position_or_len t (chars bs) ≡ length (chars front)
  place = ap (position_or_len t) parts ∙ some_position t (chars front) (chars after) c none is

  pub some_any : list_any t (chars bs) ≡ true
  some_any = ap (list_any t) parts ∙ some_passes t (chars front) (chars after) c none is

  pub some_before : before_first t (chars bs) ≡ chars front
  some_before = ap (λ n. take n (chars bs)) place
      ∙ (ap (take (length (chars front))) parts
      ∙ take_at (chars front) (c ∷ chars after) (length (chars front)) refl)

  pub some_after : after_first t (chars bs) ≡ chars after
  some_after = ap (λ n. drop (n + 1) (chars bs)) place
      ∙ (ap (drop (length (chars front) + 1)) parts
      ∙ drop-append-add (chars front) (c ∷ chars after) 1)

-- a text in which no character passes it
module _ (t : ℕ → Bool) (bs : List ℕ) (u : IsUtf8 bs) (without : NoCharPasses t bs) where
  nowhere : NonePass t (chars bs)
  nowhere = subst (NonePass t) (chars_from_encodes without.0 bs u without.1) without.2

  pub none_any : list_any t (chars bs) ≡ false
  none_any = none_passes t (chars bs) nowhere

  pub none_before : before_first t (chars bs) ≡ chars bs
  none_before = ap (λ n. take n (chars bs)) (no_position t (chars bs) nowhere)
      ∙ take_all (length (chars bs)) (chars bs) (omega arith)

  pub none_after : after_first t (chars bs) ≡ []
  none_after = ap (λ n. drop (n + 1) (chars bs)) (no_position t (chars bs) nowhere)
      ∙ drop_all (length (chars bs) + 1) (chars bs) (omega arith)

pub split_around : (c : ℕ) (bs : List ℕ) (r : Option (Bor (List ℕ) × Bor (List ℕ))) → c < 128 →
    IsUtf8 bs →
    MatchOption r (FindsChar c bs None) (λ x. SplitsAroundMatch (FindsChar c) bs x.0.now x.1.now) →
    option_map (λ x. (chars x.0.now, chars x.1.now)) r ≡ around c (chars bs)
split_around c bs None low u h = rw (none_any (λ d. eqb d c) bs u h) refl
split_around c bs (Some x) low u h =
    let t : ℕ → Bool = λ d. eqb d c in
    let is : t c ≡ true = eq-eqb c c refl in
    let front = x.0.now in
    let after = x.1.now in
    rw (
      some_any t bs front after h.0 h.1 c u h.2.0 h.2.1 is low h.3 h.4 h.7,
      some_before t bs front after h.0 h.1 c u h.2.0 h.2.1 is low h.3 h.4 h.7,
      some_after t bs front after h.0 h.1 c u h.2.0 h.2.1 is low h.3 h.4 h.7,
    ) refl
