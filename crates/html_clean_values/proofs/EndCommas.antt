-- Commas at the end of a text, by bytes and by characters.
use Rattle.std.proofs.Common.{◌≡◌, ℕ, ◌+◌, ◌-◌, lit<, get_or, Bool, true, List, [], ◌∷◌, ◌++◌, chars, length, length-append, take, refl, sym, ap, ◌∙◌, arith}
use Rattle.std.proofs.lemmas.Bool.{eqb-true, false≢true}
use Rattle.std.proofs.lemmas.Str.{IsCharBoundary-before_ascii, IsUtf8-take, chars-append, chars-IsAscii, encodes-append, encodes-chars, encodes-IsAscii}
use Rattle.std.proofs.lemmas.Str.Ascii.{IsAscii-cons, IsAscii-nil}
use Rattle.std.proofs.lemmas.List.{get_or_at}
use Rattle.std.specs.Str.{IsAscii, IsUtf8}
use Rattle.html_clean_values.proofs.Prefixing.{same_tests}
use Rattle.html_clean_values.specs.Srcsets.{ends_in_comma}
use lib.Utf8.{encodes}

comma_end : (front : List ℕ) → ends_in_comma (front ++ 44 ∷ []) ≡ true
comma_end [] = refl
comma_end (c ∷ []) = refl
comma_end (c ∷ d ∷ front) = comma_end (d ∷ front)

record Front (cs : List ℕ) : Type 0 where
  front : List ℕ
  whole : cs ≡ front ++ 44 ∷ []

front_of : (cs : List ℕ) → ends_in_comma cs ≡ true → Front cs
front_of [] is = absurd (false≢true is)
front_of (c ∷ []) is = record { front = []; whole = ap (λ d. d ∷ []) (eqb-true c 44 is) }
front_of (c ∷ d ∷ cs) is =
    let held = front_of (d ∷ cs) is in
    record { front = c ∷ held.front; whole = ap (λ l. c ∷ l) held.whole }

comma_ascii : IsAscii (44 ∷ [])
comma_ascii = IsAscii-cons 44 [] (lit< tt) IsAscii-nil

module _ (bs : List ℕ) (u : IsUtf8 bs) where
  by_chars : bs ≡ take (length bs - 1) bs ++ 44 ∷ [] → ends_in_comma (chars bs) ≡ true
  by_chars is =
      let front = take (length bs - 1) bs in
      let long : length bs ≡ length front + 1 = ap length is ∙ length-append front (44 ∷ []) in
      let byte : get_or bs (length bs - 1) 0 ≡ 44 =
      ap (λ l. get_or l (length bs - 1) 0) is
      ∙ get_or_at front 44 [] 0 (length bs - 1) (omega (arith, long)) in
      let v = IsUtf8-take bs (length bs - 1) u
      (IsCharBoundary-before_ascii bs (length bs - 1) (omega (arith, long))
      (omega (arith, byte))) in
      ap ends_in_comma (ap chars is ∙ (chars-append front (44 ∷ []) v
      ∙ ap (λ l. chars front ++ l) (chars-IsAscii (44 ∷ []) comma_ascii))) ∙ comma_end (chars front)

  by_bytes : ends_in_comma (chars bs) ≡ true → (front : List ℕ) × (bs ≡ front ++ 44 ∷ [])
  by_bytes is =
      let held = front_of (chars bs) is in (
        encodes held.front,
        sym (encodes-chars bs u) ∙ (ap encodes held.whole ∙ (encodes-append held.front (44 ∷ [])
            ∙ ap (λ l. encodes held.front ++ l) (encodes-IsAscii (44 ∷ []) comma_ascii))),
      )

  pub ends_chars : (r : Bool) → (r ≡ true → bs ≡ take (length bs - 1) bs ++ 44 ∷ []) →
      ((front : List ℕ) → bs ≡ front ++ 44 ∷ [] → r ≡ true) → r ≡ ends_in_comma (chars bs)
  ends_chars r front_is none =
      same_tests r (ends_in_comma (chars bs)) (λ is. by_chars (front_is is))
      (λ is. let held = by_bytes is in none held.0 held.1)
