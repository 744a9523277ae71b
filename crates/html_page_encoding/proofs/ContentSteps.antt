-- The label of an encoding in the value of `content`, place by place.
use Rattle.std.proofs.Common.{◌≡◌, ℕ, List, [], ◌∷◌, ap, refl, sym, ◌∙◌, None, Some}
use Rattle.html_page_encoding.specs.ContentLabels.{behind_charset, content_label, label_or, label_read}

content_next : (bs : List ℕ) (b : ℕ) →
    content_label (b ∷ bs) ≡ label_or (content_label bs) (behind_charset (b ∷ bs))
unfolding content_label
content_next bs b = refl

pub content_none : (bs : List ℕ) → bs ≡ [] → content_label bs ≡ None
unfolding content_label
content_none bs e = ap content_label e

module _ (bs later : List ℕ) (b : ℕ) (e : bs ≡ b ∷ later) where
  pub content_here : (rest : List ℕ) → behind_charset bs ≡ Some rest →
      content_label bs ≡ label_read rest
  content_here rest found = ap content_label e ∙ (content_next later b
      ∙ ap (label_or (content_label later)) (ap behind_charset (sym e) ∙ found))

  pub content_later : behind_charset bs ≡ None → content_label bs ≡ content_label later
  content_later lost = ap content_label e ∙ (content_next later b
      ∙ ap (label_or (content_label later)) (ap behind_charset (sym e) ∙ lost))
