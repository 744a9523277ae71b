-- Words of ASCII among bytes.
use Rattle.std.proofs.Common.{◌≡◌, ℕ, ◌<◌, true, false, List, [], ◌∷◌, ap, arith, drop, length, map, take, refl, sym, ◌∙◌, Some, None}
use Rattle.std.proofs.lemmas.{Bool.{false_from_ne_true}, List.{length-map, length-take}, Slice.Eq.{bytes_eq-Decides}}
use Rattle.std.specs.Char.{to_ascii_lowercase}
use Rattle.html_page_encoding.specs.Classes.{behind_bytes, behind_first, behind_word, found_or, is_word}

module _ (word bs : List ℕ) where
  pub behind_found : is_word word (take (length word) bs) ≡ true →
      behind_word word bs ≡ Some (drop (length word) bs)
  unfolding behind_word
  behind_found e = rw e

  pub behind_lost : is_word word (take (length word) bs) ≡ false → behind_word word bs ≡ None
  unfolding behind_word
  behind_lost e = rw e

  pub word_long : is_word word bs ≡ true → length bs ≡ length word
  unfolding is_word
  word_long e =
      omega (
        arith,
        ap length ((bytes_eq-Decides (map to_ascii_lowercase bs) word).0 e),
        length-map bs to_ascii_lowercase,
      )

pub behind_short : (word bs : List ℕ) → length bs < length word → behind_word word bs ≡ None
behind_short word bs short = behind_lost word bs (false_from_ne_true _ (λ e.
    omega (arith, word_long word (take (length word) bs) e, length-take (length word) bs)))

first_next : (bytes bs : List ℕ) (b : ℕ) → behind_first bytes (b ∷ bs)
    ≡ found_or (behind_first bytes bs) (behind_bytes bytes (b ∷ bs))
unfolding behind_first
first_next bytes bs b = refl

pub first_none : (bytes bs : List ℕ) → bs ≡ [] → behind_first bytes bs ≡ None
unfolding behind_first
first_none bytes bs e = ap (behind_first bytes) e

module _ (bytes bs later : List ℕ) (b : ℕ) (e : bs ≡ b ∷ later) where
  next : behind_first bytes bs ≡ found_or (behind_first bytes later) (behind_bytes bytes bs)
  next = ap (behind_first bytes) e ∙ (first_next bytes later b
      ∙ ap (λ l. found_or (behind_first bytes later) (behind_bytes bytes l)) (sym e))

  pub first_here : (rest : List ℕ) → behind_bytes bytes bs ≡ Some rest →
      behind_first bytes bs ≡ Some rest
  first_here rest found = next ∙ ap (found_or (behind_first bytes later)) found

  pub first_later : behind_bytes bytes bs ≡ None → behind_first bytes bs ≡ behind_first bytes later
  first_later lost = next ∙ ap (found_or (behind_first bytes later)) lost
