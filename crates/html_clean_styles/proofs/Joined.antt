-- Declarations that are joined.
use Rattle.std.proofs.Common.{◌≡◌, ℕ, ◌==◌, List, [], ◌∷◌, ◌++◌, refl, sym, ap, ◌∙◌, append_assoc}
use Rattle.std.specs.{Prelude.{codes}, Str.{NonePass}}
use Rattle.html_clean_styles.{proofs.Cuts.{first_piece, last_piece}, specs.Styles.{declaration, declarations, joined, pieces}}

pub none_follow : (a b : List ℕ) → b ≡ [] → joined a b ≡ a
unfolding joined
none_follow [] b e = e
none_follow (x ∷ xs) b e = rw e refl

pub none_before : (a b : List ℕ) → a ≡ [] → joined a b ≡ b
unfolding joined
none_before a b e = rw e refl

pub both : (a b : List ℕ) → (a ≡ [] → ⊥) → (b ≡ [] → ⊥) → joined a b ≡ (a ++ codes "; ") ++ b
unfolding joined
both [] b some more = absurd (some refl)
both (x ∷ xs) [] some more = absurd (more refl)
both (x ∷ xs) (y ∷ ys) some more = sym (append_assoc (x ∷ xs) (codes "; ") (y ∷ ys))

joined_assoc : (a b c : List ℕ) → joined (joined a b) c ≡ joined a (joined b c)
unfolding joined
joined_assoc [] b c = refl
joined_assoc (x ∷ xs) [] c = refl
joined_assoc (x ∷ xs) (y ∷ ys) [] = refl
joined_assoc (x ∷ xs) (y ∷ ys) (z ∷ zs) =
    ap (λ l. x ∷ l) (append_assoc xs (codes "; " ++ y ∷ ys) (codes "; " ++ z ∷ zs))

module _ (properties : List (List ℕ)) where
  -- a text that is read up to a place, and what is made of it
  abbrev pub Goes : (made left whole : List ℕ) → Type 0
  Goes made left whole = joined made (declarations properties (pieces left)) ≡ whole

  pub begun : (made style : List ℕ) → made ≡ [] →
      Goes made style (declarations properties (pieces style))
  begun made style e = none_before made (declarations properties (pieces style)) e

  pub more : (made new left piece rest whole : List ℕ) → left ≡ piece ++ 59 ∷ rest →
      NonePass (λ c. c == 59) piece → new ≡ joined made (declaration properties piece) →
      Goes made left whole → Goes new rest whole
  unfolding declarations
  more made new left piece rest whole parts none is goes =
      let at : pieces left ≡ piece ∷ pieces rest = ap pieces parts ∙ first_piece piece rest none in
      ap (λ l. joined l (declarations properties (pieces rest))) is
      ∙ (joined_assoc made (declaration properties piece) (declarations properties (pieces rest))
      ∙ (ap (λ l. joined made (declarations properties l)) (sym at) ∙ goes))

  pub ended : (made new left whole : List ℕ) → NonePass (λ c. c == 59) left →
      new ≡ joined made (declaration properties left) → Goes made left whole → new ≡ whole
  unfolding declarations
  ended made new left whole none is goes =
      is ∙ (ap (λ l. joined made l) (sym (none_follow (declaration properties left) [] refl))
      ∙ (ap (λ l. joined made (declarations properties l)) (sym (last_piece left none)) ∙ goes))
