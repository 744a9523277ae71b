-- Texts without the white space around them, and what is left of a text that is read up to a place.
use Rattle.std.proofs.Common.{◌≡◌, ℕ, Bool, true, false, List, [], ◌∷◌, ◌++◌, refl, sym, ap, ◌∙◌, append_assoc, inl, inr}
use Rattle.std.proofs.lemmas.Bool.{cases_Bool}
use Rattle.html_clean_styles.specs.Styles.{is_space, spaced, squeezed, squeezed_from}

pub at_space : (begun gap : Bool) (c : ℕ) (cs : List ℕ) → is_space c ≡ true →
    squeezed_from begun gap (c ∷ cs) ≡ squeezed_from begun begun cs
unfolding squeezed_from
at_space begun gap c cs h = rw h refl

pub at_shown : (begun gap : Bool) (c : ℕ) (cs : List ℕ) → is_space c ≡ false →
    squeezed_from begun gap (c ∷ cs) ≡ spaced gap c ++ squeezed_from true false cs
unfolding squeezed_from
at_shown begun gap c cs h = rw h refl

pub at_end : (begun gap : Bool) → squeezed_from begun gap [] ≡ []
unfolding squeezed_from
at_end begun gap = refl

-- the character that is put next
pub put : (made new cs whole : List ℕ) (begun gap : Bool) (c : ℕ) → is_space c ≡ false →
    new ≡ made ++ spaced gap c → made ++ squeezed_from begun gap (c ∷ cs) ≡ whole →
    new ++ squeezed_from true false cs ≡ whole
put made new cs whole begun gap c h e same =
    ap (λ l. l ++ squeezed_from true false cs) e
    ∙ (append_assoc made (spaced gap c) (squeezed_from true false cs)
    ∙ (ap (λ l. made ++ l) (sym (at_shown begun gap c cs h)) ∙ same))

-- squeezed once more, where text stands before, a gap is one space
record Stays (text : List ℕ) : Type 0 where
  first : squeezed (squeezed text) ≡ squeezed text
  behind : squeezed_from true false (squeezed_from true false text) ≡ squeezed_from true false text
  behind_gap : squeezed_from true false (squeezed_from true true text) ≡ squeezed_from true true text

shown_again : (c : ℕ) (cs : List ℕ) → is_space c ≡ false → Stays cs → Stays (c ∷ cs)
unfolding squeezed_from spaced is_space
shown_again c cs h s =
    record {
      first = rw h (rw h (ap (λ l. c ∷ l) s.behind));
      behind = rw h (rw h (ap (λ l. c ∷ l) s.behind));
      behind_gap = rw h (rw h (ap (λ l. 32 ∷ c ∷ l) s.behind));
    }

stays : (text : List ℕ) → Stays text
unfolding squeezed_from
stays [] = record { first = refl; behind = refl; behind_gap = refl }
stays (c ∷ cs) = elim (cases_Bool (is_space c)) [
  | inl h ↦ let s = stays cs in record {
    first = rw h s.first;
    behind = rw h s.behind_gap;
    behind_gap = rw h s.behind_gap;
  }
  | inr h ↦ shown_again c cs h (stays cs)
]

-- a squeezed text stays as it is
pub squeezed_again : (text : List ℕ) → squeezed (squeezed text) ≡ squeezed text
squeezed_again text = (stays text).first
