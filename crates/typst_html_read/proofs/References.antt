-- References in a text, by its bytes.
use Rattle.std.proofs.{Common.{◌≡◌, ℕ, List, [], ◌∷◌, None, chars, codes, refl, ap, arith}, lemmas.Bool.Decides.{nat_tests}}
use Rattle.std.specs.Str.{IsUtf8}
use lib.Utf8.{encodes}
use Rattle.typst_html_encode.specs.References.{numbered_char, reference_by_number, reference}
use Rattle.html_text.proofs.Words.{chars_after_word, word_before, word_is_not}

pub by_number : (w ds : List ℕ) → w ≡ 35 ∷ 120 ∷ ds → reference (chars w) ≡ numbered_char (chars ds)
by_number w ds e = ap reference (chars_after_word (35 ∷ 120 ∷ []) w ds refl e)

not_by_number : (cs : List ℕ) → ((rest : List ℕ) → cs ≡ 35 ∷ 120 ∷ rest → ⊥) →
    None ≡ reference_by_number cs
not_by_number [] h = refl
not_by_number (x ∷ []) h = refl
not_by_number (x ∷ y ∷ ds) h = grind (arith, nat_tests, h ds)

pub no_reference : (w : List ℕ) → IsUtf8 w → (w ≡ codes "amp" → ⊥) → (w ≡ codes "lt" → ⊥) →
    (w ≡ codes "gt" → ⊥) → (w ≡ codes "quot" → ⊥) → (w ≡ codes "apos" → ⊥) →
    ((rest : List ℕ) → w ≡ 35 ∷ 120 ∷ rest → ⊥) → None ≡ reference (chars w)
no_reference w u amp lt gt quot apos h =
    rw (
      word_is_not (codes "amp") w refl u amp,
      word_is_not (codes "lt") w refl u lt,
      word_is_not (codes "gt") w refl u gt,
      word_is_not (codes "quot") w refl u quot,
      word_is_not (codes "apos") w refl u apos,
    )
    (not_by_number (chars w)
    (λ rest e. h (encodes rest) (word_before (35 ∷ 120 ∷ []) w rest refl u e)))
