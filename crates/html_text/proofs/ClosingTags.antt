-- Closing tags stand where a `<` does.
use Rattle.std.proofs.Common.{◌≡◌, ℕ, false, ◌||◌, eqb, Some, None, List, [], ◌∷◌, ◌++◌, length, take, drop, chars, ◌+◌, map, arith, refl, ap, ◌∙◌, sym}
use Rattle.std.proofs.lemmas.{Bool.Decides.{nat_tests}, List.{take-append-drop}}
use Rattle.std.proofs.lemmas.Str.{IsCharBoundary-before_ascii, IsUtf8-take, IsUtf8-drop, IsUtf8-past_char, chars-append, chars_from_encodes, chars_past_char}
use Rattle.std.specs.{Char.{to_ascii_lowercase}, Str.{IsUtf8, NonePass, IsCharBoundary}, Str.Pattern.{FindsChar}}
use Rattle.html_text.specs.ClosingTags as ending
use lib.Utf8.{encode}

-- no other character has `<` for its small letter
less_alone : (c : ℕ) → eqb c 60 ≡ false → eqb (to_ascii_lowercase c) 60 ≡ false
less_alone c h = grind (arith, nat_tests)

holds_past : (xs cs ds : List ℕ) → NonePass (λ d. eqb d 60) cs →
    ending.has_closing (60 ∷ xs) (cs ++ 60 ∷ ds)
    ≡ (ending.begins_closing (60 ∷ xs) (60 ∷ ds) || ending.has_closing (60 ∷ xs) ds)
holds_past xs [] ds h = refl
holds_past xs (c ∷ cs) ds h = rw (less_alone c h.0) (holds_past xs cs ds h.1)

holds_nowhere : (xs cs : List ℕ) → NonePass (λ d. eqb d 60) cs → ending.has_closing (60 ∷ xs) cs ≡ false
holds_nowhere xs [] h = refl
holds_nowhere xs (c ∷ cs) h = rw (less_alone c h.0) (holds_nowhere xs cs h.1)

-- a text whose first `<` stands at i, and what follows it
module _ (bs after : List ℕ) (i j : ℕ) (u : IsUtf8 bs) (found : FindsChar 60 bs (Some (i, j)))
    (follows : after ≡ drop j bs) (fits : length after + j ≡ length bs) where
  cut : IsCharBoundary bs i
  cut = IsCharBoundary-before_ascii bs i (omega (arith, found.1.ends, fits))
      (omega (arith, found.1.byte (omega arith)))

  seam : drop i bs ≡ encode 60 ++ after
  seam = found.1.split ∙ ap (λ l. encode 60 ++ l) (sym follows)

  pub after_utf8 : IsUtf8 after
  after_utf8 = IsUtf8-past_char (drop i bs) after 60 (IsUtf8-drop bs i u cut) seam

  pub holds_at : (name : List ℕ) → ending.holds_closing name (chars bs)
      ≡ (ending.begins_closing (ending.closing name) (60 ∷ chars after)
      || ending.holds_closing name (chars after))
  holds_at name =
      let front : found.0.0 ≡ chars (take i bs) =
      chars_from_encodes found.0.0 (take i bs) (IsUtf8-take bs i u cut) found.0.1 in
      let back : chars (drop i bs) ≡ 60 ∷ chars after =
      chars_past_char (drop i bs) after 60 (IsUtf8-drop bs i u cut) seam in
      let all : chars bs ≡ found.0.0 ++ 60 ∷ chars after =
      ap chars (sym (take-append-drop i bs))
      ∙ (chars-append (take i bs) (drop i bs) (IsUtf8-take bs i u cut)
      ∙ (ap (λ l. l ++ chars (drop i bs)) (sym front) ∙ ap (λ l. found.0.0 ++ l) back)) in
      ap (ending.holds_closing name) all
      ∙ holds_past (47 ∷ map to_ascii_lowercase name) found.0.0 (chars after) found.0.2

pub holds_none : (name bs : List ℕ) → IsUtf8 bs → FindsChar 60 bs None →
    ending.holds_closing name (chars bs) ≡ false
holds_none name bs u found =
    ap (ending.holds_closing name) (sym (chars_from_encodes found.0 bs u found.1))
    ∙ holds_nowhere (47 ∷ map to_ascii_lowercase name) found.0 found.2
