-- Texts that are cut around their first character that passes a test, by bytes and by characters.
use Rattle.std.proofs.Common.{◌≡◌, ℕ, suc, ◌+◌, ◌<◌, Bool, true, false, List, [], ◌∷◌, ◌++◌, chars, drop, length, length-drop, take, refl, sym, ap, ◌∙◌, subst, arith}
use Rattle.std.proofs.lemmas.List.{drop_all, take-append-drop, take_all, take_at}
use Rattle.std.proofs.Math.Seq.{drop-append-add}
use Rattle.std.proofs.lemmas.Str.{IsCharBoundary-before_ascii, IsUtf8-drop, IsUtf8-take, chars-append, chars_from_encodes, chars_past_char, len_utf8_ascii}
use Rattle.std.specs.List.{after_first, before_first, position_or_len}
use Rattle.std.specs.{Str.{IsUtf8, IsCharBoundary, NoCharPasses, NonePass}, Str.Pattern.{HasCharAt}}
use lib.Utf8.{encode}

module _ (t : ℕ → Bool) where
  -- step by step

  pub before_here : (c : ℕ) (cs : List ℕ) → t c ≡ true → before_first t (c ∷ cs) ≡ []
  before_here c cs is = rw is refl

  pub after_here : (c : ℕ) (cs : List ℕ) → t c ≡ true → after_first t (c ∷ cs) ≡ cs
  after_here c cs is = rw is refl

  pub before_later : (c : ℕ) (cs : List ℕ) → t c ≡ false →
      before_first t (c ∷ cs) ≡ c ∷ before_first t cs
  before_later c cs is =
      let e : 1 + position_or_len t cs ≡ suc (position_or_len t cs) = omega arith in
      rw is (ap (λ n. take n (c ∷ cs)) e)

  pub after_later : (c : ℕ) (cs : List ℕ) → t c ≡ false →
      after_first t (c ∷ cs) ≡ after_first t cs
  after_later c cs is =
      let e : (1 + position_or_len t cs) + 1 ≡ suc (position_or_len t cs + 1) = omega arith in
      rw is (ap (λ n. drop n (c ∷ cs)) e)

  pub after_shorter : (c : ℕ) (cs : List ℕ) → length (after_first t (c ∷ cs)) < length (c ∷ cs)
  after_shorter c cs = omega (arith, length-drop (position_or_len t (c ∷ cs) + 1) (c ∷ cs))

  -- where the first one stands

  position_some : (xs ys : List ℕ) (c : ℕ) → NonePass t xs → t c ≡ true →
      position_or_len t (xs ++ c ∷ ys) ≡ length xs
  position_some [] ys c h is = rw is refl
  position_some (x ∷ xs) ys c h is = rw (h.0, position_some xs ys c h.1 is) (omega arith)

  position_none : (xs : List ℕ) → NonePass t xs → position_or_len t xs ≡ length xs
  position_none [] h = refl
  position_none (x ∷ xs) h = rw (h.0, position_none xs h.1) (omega arith)

-- a text in which an ASCII character is the first that passes the test, and what stands around it
module _ (t : ℕ → Bool) (bs front after : List ℕ) (i j c : ℕ) (u : IsUtf8 bs)
    (before : NoCharPasses t (take i bs)) (at : HasCharAt c bs i j) (is : t c ≡ true)
    (low : c < 128) (first : front ≡ take i bs) (last : after ≡ drop j bs)
    (fits : length after + j ≡ length bs) where
  cut : IsCharBoundary bs i
  cut = IsCharBoundary-before_ascii bs i (omega (arith, at.ends, len_utf8_ascii c low, fits))
      (omega (arith, at.byte low, low))

  parts : chars bs ≡ chars front ++ c ∷ chars after
  parts =
      let v = IsUtf8-take bs i u cut in
      let back : chars (drop i bs) ≡ c ∷ chars after =
      chars_past_char (drop i bs) after c (IsUtf8-drop bs i u cut)
      (at.split ∙ ap (λ l. encode c ++ l) (sym last)) in
      ap chars (sym (take-append-drop i bs))
      ∙ (chars-append (take i bs) (drop i bs) v
      ∙ (ap (λ l. chars l ++ chars (drop i bs)) (sym first) ∙ ap (λ l. chars front ++ l) back))

  none : NonePass t (chars front)
  none = subst (NonePass t)
      (chars_from_encodes before.0 (take i bs) (IsUtf8-take bs i u cut) before.1
      ∙ ap chars (sym first)) before.2

  place : position_or_len t (chars bs) ≡ length (chars front)
  place = ap (position_or_len t) parts ∙ position_some t (chars front) (chars after) c none is

  pub some_before : before_first t (chars bs) ≡ chars front
  some_before = ap (λ n. take n (chars bs)) place
      ∙ (ap (take (length (chars front))) parts
      ∙ take_at (chars front) (c ∷ chars after) (length (chars front)) refl)

  pub some_after : after_first t (chars bs) ≡ chars after
  some_after = ap (λ n. drop (n + 1) (chars bs)) place
      ∙ (ap (drop (length (chars front) + 1)) parts
      ∙ drop-append-add (chars front) (c ∷ chars after) 1)

-- a text in which no character passes it
module _ (t : ℕ → Bool) (bs : List ℕ) (u : IsUtf8 bs) (without : NoCharPasses t bs) where
  nowhere : NonePass t (chars bs)
  nowhere = subst (NonePass t) (chars_from_encodes without.0 bs u without.1) without.2

  pub none_before : before_first t (chars bs) ≡ chars bs
  none_before = ap (λ n. take n (chars bs)) (position_none t (chars bs) nowhere)
      ∙ take_all (length (chars bs)) (chars bs) (omega arith)

  pub none_after : after_first t (chars bs) ≡ []
  none_after = ap (λ n. drop (n + 1) (chars bs)) (position_none t (chars bs) nowhere)
      ∙ drop_all (length (chars bs) + 1) (chars bs) (omega arith)
