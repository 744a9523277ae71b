-- Attributes, one after the other.
use Rattle.std.proofs.Common.{◌≡◌, ℕ, zero, suc, ◌+◌, ◌-◌, ◌<◌, ◌≤◌, List, ◌∷◌, eqb, false, ap, arith, refl, ◌∙◌, None, Some}
use Rattle.html_page_encoding.specs.Attributes.{Attribute, Close, Cut, Meta, Next, TagFront, attribute_read, attributes_on, attributes_within, name_read, tag_front, taken}
use Rattle.html_page_encoding.specs.Classes.{behind, front}
use Rattle.html_page_encoding.specs.declared.class.Class.TheVariants as class

pub within_next : (n : ℕ) (m : Meta) (bs : List ℕ) →
    attributes_within (suc n) m bs ≡ attributes_on (attributes_within n) m (tag_front bs)
unfolding attributes_within
within_next n m bs = refl

module _ (n k : ℕ) (m : Meta) (bs : List ℕ) (some : k < n) where
  step : (f : TagFront) → tag_front bs ≡ f →
      attributes_within (n - k) m bs ≡ attributes_on (attributes_within (n - (k + 1))) m f
  step f is =
      let more : n - k ≡ suc (n - (k + 1)) = omega arith in
      ap (λ j. attributes_within j m bs) more ∙ (within_next (n - (k + 1)) m bs
      ∙ ap (attributes_on (attributes_within (n - (k + 1))) m) is)

  pub cut_step : tag_front bs ≡ Cut → attributes_within (n - k) m bs ≡ None
  cut_step = step Cut

  pub close_step : (rest : List ℕ) → tag_front bs ≡ Close rest →
      attributes_within (n - k) m bs ≡ Some (m, rest)
  close_step rest = step (Close rest)

  pub next_step : (a : Attribute) → tag_front bs ≡ Next a → attributes_within (n - k) m bs
      ≡ attributes_within (n - (k + 1)) (taken m a.name a.value) a.rest
  next_step a = step (Next a)

pub no_step : (n k : ℕ) (m : Meta) (bs : List ℕ) → n ≤ k → attributes_within (n - k) m bs ≡ None
unfolding attributes_within
no_step n k m bs none =
    let no : n - k ≡ zero = omega arith in ap (λ j. attributes_within j m bs) no

-- the name of an attribute begins with any byte but `>`
pub named : (bs later : List ℕ) (b : ℕ) → bs ≡ b ∷ later → eqb b 62 ≡ false → attribute_read bs
    ≡ name_read (b ∷ front class.Name later) (behind class.Space (behind class.Name later))
named bs later b e other = ap attribute_read e ∙ rw other refl
